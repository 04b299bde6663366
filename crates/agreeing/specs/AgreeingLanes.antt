-- Which of 64 scenarios that follow one another agree with the held faults: scenario base + l in lane l.
use Rattle.std.specs.Prelude.{◌≡◌, Bool, cond, List, ℕ, ◌+◌, ◌/◌, ◌%◌, ◌<◌, get_or}
use Rattle.papers.specs.Tests.{◌and◌}
use Rattle.lanes.specs.Lanes.{lane_bit}
use Rattle.held.specs.declared.Masks.{Masks}
use Rattle.held.specs.Masks.{keeps, agrees}

-- The lanes whose scenario agrees at the first k abducibles.
pub record AgreeingLanes (k : ℕ) (m : Masks) (base word : ℕ) : Type 0 where
  pub at : (l : ℕ) → l < 64 → lane_bit l word ≡ agrees k m (base + l)

-- A word's lanes kept to those whose scenario agrees at one fault: held as assumed or not, as ruled out or not, its digit at a power of 3.
pub record KeptLanes (base power : ℕ) (assumed ruled : Bool) (word after : ℕ) : Type 0 where
  pub at : (l : ℕ) → l < 64
      → lane_bit l after ≡ (lane_bit l word and (keeps assumed 1 ((base + l) / power % 3) and keeps ruled 2 ((base + l) / power % 3)))

-- Round counts, each as it was in a lane that agrees, and else 0.
pub record AgreeingRounds (word : ℕ) (rounds after : List ℕ) : Type 0 where
  pub at : (l : ℕ) → l < 64 → get_or after l 0 ≡ cond (lane_bit l word) (get_or rounds l 0) 0
