-- The searches of the reference calls, each whole, with a list that has room: Example 3.2, and the programs of Figure 1.
-- Assumes nothing.
use mathlib.Core.Path.{◌≡◌, refl}
use mathlib.Core.List.{List, [], ◌∷◌}
use Prim.Native.Nat.{ℕ}
use Rattle.papers.specs.Outcome.{accepted}
use Rattle.papers.specs.Reading.{Papers, read_papers}
use Rattle.papers.specs.Encoding.{encode_file, encode_sheet}
use Rattle.steps.specs.declared.State.TheVariants.{Ended}
use Rattle.steps.specs.Continuing.{Report, fresh, continue}
use Rattle.trying.specs.Trying.{problem_of}
use Rattle.reference.specs.Programs.{example32, figure_p0, figure_p3, figure_p4, figure_q8, figure_q11}
use Rattle.reference.specs.ComputingCalls.{computing}

-- Both papers as they are written are read as these.
abbrev pub Read : Papers → Type 0
Read q = read_papers (encode_file q.program) (encode_sheet q.query) ≡ accepted q

-- A search that has ended: how many scenarios there are, the entries found, the list, and the rounds.
abbrev pub whole : ℕ → ℕ → List ℕ → ℕ → Report
whole scenarios found list rounds = record {
  new = record { position = scenarios; found = found };
  list = list;
  tried = scenarios;
  rounds = rounds;
  state = Ended;
}

-- "Example 3.2: only scenario 5."
pub example32_read : Read example32
unfolding computing
example32_read = refl

pub example32_found : continue (problem_of example32) 9 fresh (0 ∷ 0 ∷ []) ≡ whole 9 1 (5 ∷ 0 ∷ []) 17
unfolding computing
example32_found = refl

-- "not p0 gives 8."
pub figure_p0_read : Read figure_p0
unfolding computing
figure_p0_read = refl

pub figure_p0_found : continue (problem_of figure_p0) 9 fresh (0 ∷ 0 ∷ []) ≡ whole 9 1 (8 ∷ 0 ∷ []) 9
unfolding computing
figure_p0_found = refl

-- "not p4 gives 1, 3."
pub figure_p4_read : Read figure_p4
unfolding computing
figure_p4_read = refl

pub figure_p4_found : continue (problem_of figure_p4) 9 fresh (0 ∷ 0 ∷ []) ≡ whole 9 2 (1 ∷ 3 ∷ []) 15
unfolding computing
figure_p4_found = refl

-- "q8 gives 2, 3."
pub figure_q8_read : Read figure_q8
unfolding computing
figure_q8_read = refl

pub figure_q8_found : continue (problem_of figure_q8) 9 fresh (0 ∷ 0 ∷ []) ≡ whole 9 2 (2 ∷ 3 ∷ []) 13
unfolding computing
figure_q8_found = refl

-- "not q11 (a alone) gives 1, 2."
pub figure_q11_read : Read figure_q11
unfolding computing
figure_q11_read = refl

pub figure_q11_found : continue (problem_of figure_q11) 9 fresh (0 ∷ 0 ∷ []) ≡ whole 3 2 (1 ∷ 2 ∷ []) 5
unfolding computing
figure_q11_found = refl

-- "p3 (none) gives nothing, 1 tried."
pub figure_p3_read : Read figure_p3
unfolding computing
figure_p3_read = refl

pub figure_p3_found : continue (problem_of figure_p3) 9 fresh ([]) ≡ whole 1 0 ([]) 1
unfolding computing
figure_p3_found = refl
