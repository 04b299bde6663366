-- What judging tells of 64 scenarios, as the steps need it.
-- Assumes nothing.
use mathlib.Core.Path.{◌≡◌}
use mathlib.Core.List.{List}
use Prim.Native.Nat.{ℕ, ◌+◌, ◌≤◌, ◌<◌}
use native.Mathlib.Omega.{arith}
use lib.ListN.{length, get_or}
use Rattle.papers.specs.Program.{Program, Query}
use Rattle.verdicts.specs.VerdictLanes.{VerdictLanes}
use Rattle.model.proofs.Rounds.{rounds_le}
use Rattle.stepping.specs.Stepping.{InLanes}
use Rattle.trying.specs.Trying.{problem_of}

module _ (p : Program) (q : Query) {base word : ℕ} {counts : List ℕ} (v : VerdictLanes p q base word counts) where
  -- Each scenario's verdict and its round count are in its lane.
  pub judged_lanes : {k : ℕ} → length p.abducibles ≡ k → InLanes (problem_of (record { program = p; query = q })) k base word counts
  judged_lanes e = record { abducibles = e; explains = v.explained; costs = v.counted }

  -- "At most 2N", which is at most 1,026.
  pub judged_cost : p.atoms ≤ 256 → (l : ℕ) → l < 64 → get_or counts l 0 ≤ 1026
  judged_cost few l h =
      let e = v.counted l h in
      let m = rounds_le p (base + l) in
      omega arith
