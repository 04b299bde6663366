-- What is known of the program in an accepted file.
-- Assumes nothing.
use mathlib.Core.Path.{◌≡◌, ap}
use mathlib.Core.List.{List}
use Prim.Native.Nat.{ℕ, ◌≤◌}
use native.Mathlib.Omega.{arith}
use lib.ListN.{length}
use Rattle.papers.specs.declared.Contents.{Contents}
use Rattle.papers.specs.Outcome.{accepted}
use Rattle.papers.specs.Reading.{read_file, program_in}
use Rattle.papers.specs.Valid.{Valid}
use Rattle.papers.specs.Answers.{contents_of}
use Rattle.papers.specs.Told.{tells, read_told}
use Rattle.papers.proofs.Accepted.{accepted_valid}
use Rattle.papers.proofs.ReadersGot.{told_accepted}

-- The answer of an accepted file tells of the program in it.
pub record Told (bytes : List ℕ) (contents : Contents) : Type 0 where
  pub is : read_file bytes ≡ accepted (program_in bytes)
  pub contents_are : contents_of (program_in bytes) ≡ contents

pub told : (bytes : List ℕ) (contents : Contents) → read_told contents_of (read_file bytes) ≡ tells contents → Told bytes contents
unfolding program_in
told bytes contents e =
    let f = told_accepted contents_of (read_file bytes) e in
    record { is = rw f.is; contents_are = rw f.is f.tells_it }

module _ (bytes : List ℕ) (contents : Contents) (answer : read_told contents_of (read_file bytes) ≡ tells contents) where
  pub program_valid : Valid (program_in bytes)
  program_valid = accepted_valid bytes (program_in bytes) (told bytes contents answer).is

  pub atoms_are : (program_in bytes).atoms ≡ contents.atoms
  atoms_are = ap (λ (x : Contents). x.atoms) (told bytes contents answer).contents_are

  pub abducibles_are : length (program_in bytes).abducibles ≡ contents.abducibles
  abducibles_are = ap (λ (x : Contents). x.abducibles) (told bytes contents answer).contents_are

  pub few_atoms_lem : contents.atoms ≤ 256
  few_atoms_lem = let a = atoms_are in omega (arith, program_valid.few_atoms)
