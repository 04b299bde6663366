-- The models of the reference calls: Examples 2.1 and 3.1, and the contradiction with its integrity rule.
-- Assumes nothing.
use mathlib.Core.Path.{◌≡◌, refl}
use mathlib.Core.Bool.{false}
use mathlib.Core.List.{[], ◌∷◌}
use lib.ListN.{get_or}
use Rattle.papers.specs.Outcome.{accepted}
use Rattle.papers.specs.Reading.{read_file}
use Rattle.papers.specs.Encoding.{encode_file}
use Rattle.model.specs.Model.{model_bytes, rounds, explains}
use Rattle.reference.specs.Programs.{example21, example31, contradiction, query_d}
use Rattle.reference.specs.ComputingCalls.{computing}

pub model21 : model_bytes example21 0 ≡ 0 ∷ 2 ∷ 2 ∷ 1 ∷ 1 ∷ 2 ∷ 2 ∷ []
unfolding computing
model21 = refl

pub rounds21 : rounds example21 0 ≡ 3
unfolding computing
rounds21 = refl

pub accepted31 : read_file (encode_file example31) ≡ accepted example31
unfolding computing
accepted31 = refl

pub model31 : model_bytes example31 0 ≡ 1 ∷ 2 ∷ 2 ∷ 2 ∷ 2 ∷ 2 ∷ 2 ∷ 2 ∷ 2 ∷ []
unfolding computing
model31 = refl

pub rounds31 : rounds example31 0 ≡ 2
unfolding computing
rounds31 = refl

pub contradiction_accepted : read_file (encode_file contradiction) ≡ accepted contradiction
unfolding computing
contradiction_accepted = refl

-- In scenario 1, a is assumed.
pub contradiction_falsum : get_or (model_bytes contradiction 1) 4 0 ≡ 3
unfolding computing
contradiction_falsum = refl

pub contradiction_none : explains contradiction query_d 1 ≡ false
unfolding computing
contradiction_none = refl
