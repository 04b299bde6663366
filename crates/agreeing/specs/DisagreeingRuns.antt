-- Scenarios that follow one another and do not agree with the held faults.
use Rattle.std.specs.Prelude.{◌≡◌, true, false, ℕ, ◌+◌, ◌<◌}
use Rattle.held.specs.declared.Masks.{Masks}
use Rattle.held.specs.Masks.{agrees}

-- None of the scenarios from s on, as many as a run says, agrees; and where the run is empty, s does.
pub record DisagreeingRun (k : ℕ) (m : Masks) (s run : ℕ) : Type 0 where
  pub none : (l : ℕ) → l < run → agrees k m (s + l) ≡ false
  pub first : run ≡ 0 → agrees k m s ≡ true
