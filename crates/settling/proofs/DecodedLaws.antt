-- The atoms and the abducibles of a decoded file.
-- Assumes nothing.
use mathlib.Core.Path.{◌≡◌}
use Prim.Native.Nat.{◌≤◌}
use lib.ListN.{length}
use Rattle.papers.specs.Reading.{program_in}
use Rattle.papers.proofs.FileFacts.{abducibles_are, atoms_are, few_atoms_lem, program_valid}
use Rattle.settling.specs.declared.DecodedFile.{DecodedFile}
use Rattle.settling.specs.DecodedFiles.{FileDecoded}

module _ {d : DecodedFile} (s : FileDecoded d) where
  pub decoded_atoms : (program_in d.file.now).atoms ≡ d.contents.atoms
  decoded_atoms = atoms_are d.file.now d.contents s.answer

  pub decoded_few : d.contents.atoms ≤ 256
  decoded_few = few_atoms_lem d.file.now d.contents s.answer

  pub program_few : (program_in d.file.now).atoms ≤ 256
  program_few = rw decoded_atoms decoded_few

  pub decoded_abducibles : length (program_in d.file.now).abducibles ≡ d.contents.abducibles
  decoded_abducibles = abducibles_are d.file.now d.contents s.answer

  pub program_abducibles : length (program_in d.file.now).abducibles ≤ 16
  program_abducibles = (program_valid d.file.now d.contents s.answer).few_abducibles

  pub few_abducibles : d.contents.abducibles ≤ 16
  few_abducibles = rw decoded_abducibles at program_abducibles
