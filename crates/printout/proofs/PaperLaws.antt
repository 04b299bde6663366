-- What is known of the problem of accepted papers. Assumes nothing.
use mathlib.Core.Path.{◌≡◌, sym, ap, ◌∙◌}
use mathlib.Core.List.{List}
use Prim.Native.Nat.{ℕ, ◌+◌, ◌-◌, ◌*◌, ◌≤◌, ◌<◌}
use native.Mathlib.Omega.{arith}
use native.Mathlib.Nat.{pow-le-pow_right}
use lib.ListN.{length, take, drop}
use Rattle.papers.specs.declared.Contents.{Contents}
use Rattle.papers.specs.Field.{numbers}
use Rattle.papers.specs.Valid.{All, Valid}
use Rattle.papers.specs.Outcome.{Outcome, accepted}
use Rattle.papers.specs.Reading.{Papers, read_papers}
use Rattle.papers.specs.Answers.{contents_of}
use Rattle.papers.proofs.NumberLaws.{Bytes}
use Rattle.papers.proofs.FoldLaws.{abducibles_content, abducibles_within}
use Rattle.papers.proofs.BothAccepted.{papers_file}
use Rattle.papers.proofs.Lists.{all_each}
use Rattle.papers.proofs.Accepted.{accepted_valid}
use Rattle.dual.specs.Bytes.{dual_of}
use Rattle.dual.proofs.Lengths.{dual_length_lem}
use Rattle.dual.proofs.Bound.{dual_bound}
use Rattle.model.proofs.Rounds.{rounds_le}
use Rattle.steps.specs.Explanations.{Problem, scenarios}
use Rattle.trying.specs.Trying.{problem_of}
use Rattle.printout.specs.DeskSearch.{problem_for}

pub problem_is : {read : Outcome Papers} {q : Papers} → read ≡ accepted q → problem_for read ≡ problem_of q
unfolding problem_for
problem_is e = rw e

-- A problem within document 01's limits: at most 16 abducibles, and "at most 2N" rounds.
pub record Small (P : Problem) : Type 0 where
  pub few : scenarios P ≤ 43046721
  pub rounds : (s : ℕ) → P.rounds s ≤ 1026

module _ (file sheet : List ℕ) {q : Papers} (is : read_papers file sheet ≡ accepted q) where
  pub program_valid : Valid q.program
  program_valid = accepted_valid file q.program (papers_file file sheet is)

  pub dual_few : length (dual_of q.program) ≤ 52488
  dual_few = omega (arith, dual_length_lem q.program, dual_bound q.program program_valid)

  pub small : Small (problem_of q)
  small =
      let v = program_valid in
      let p = pow-le-pow_right {n = 3} (omega arith) {i = length q.program.abducibles} {j = 16} v.few_abducibles in
      record {
        few = omega arith;
        rounds = λ s. let r = rounds_le q.program s in let a = v.few_atoms in omega arith;
      }

  -- An abducible's number has at most three digits.
  pub abducibles_below : All (◌< 1000) q.program.abducibles
  abducibles_below = let few = program_valid.few_atoms in all_each (λ a h. omega arith) program_valid.abducibles_listed

  -- By the file's counts.
  module _ {contents : Contents} (told : contents_of q.program ≡ contents) where
    pub listed_are : length q.program.abducibles ≡ contents.abducibles
    listed_are = ap (λ (x : Contents). x.abducibles) told

    pub few_listed : contents.abducibles ≤ 16
    few_listed = let e = listed_are in let v = program_valid.few_abducibles in omega arith

    pub atoms_told : q.program.atoms ≡ contents.atoms
    atoms_told = ap (λ (x : Contents). x.atoms) told

    -- The abducibles are the numbers of the part of the file from place 12 on.
    module _ (bytes : Bytes file) where
      pub listed_within : 12 + 2 * contents.abducibles ≤ length file
      listed_within = let e = listed_are in let w = abducibles_within file q.program bytes (papers_file file sheet is) in omega arith

      pub listed_there : q.program.abducibles ≡ numbers (take (12 + 2 * contents.abducibles - 12) (drop 12 file))
      listed_there =
          let e : 2 * length q.program.abducibles ≡ 12 + 2 * contents.abducibles - 12 = let k = listed_are in omega arith in
          sym (abducibles_content file q.program bytes (papers_file file sheet is)) ∙ ap (λ (n : ℕ). numbers (take n (drop 12 file))) e
