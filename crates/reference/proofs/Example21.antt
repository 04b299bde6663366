-- Example 2.1: its file, and its dual.
-- Assumes nothing.
use mathlib.Core.Path.{◌≡◌, refl}
use lib.ListN.{length}
use Rattle.papers.specs.Outcome.{accepted}
use Rattle.papers.specs.Reading.{read_file}
use Rattle.papers.specs.Encoding.{encode_file}
use Rattle.dual.specs.Table.{dual}
use Rattle.dual.specs.TableEncoding.{encode_dual}
use Rattle.reference.specs.Programs.{example21, example21_dual}
use Rattle.reference.specs.ComputingCalls.{computing}

pub accepted21 : read_file (encode_file example21) ≡ accepted example21
unfolding computing
accepted21 = refl

pub dual21 : encode_dual (dual example21) ≡ example21_dual
unfolding computing
dual21 = refl

pub length21 : length (encode_dual (dual example21)) ≡ 60
unfolding computing
length21 = refl
