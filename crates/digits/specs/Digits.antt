-- The digits of 64 scenarios that follow one another, and their abducible literals, each scenario in its lane.
use Rattle.std.specs.Prelude.{◌≡◌, not, List, ℕ, ◌+◌, ◌/◌, ◌%◌, ◌<◌, eqb, ltb, get_or}
use Rattle.literals.specs.Numbering.{judged}
use Rattle.papers.specs.Program.{Program}
use Rattle.papers.specs.Tests.{◌and◌}
use Rattle.model.specs.Scenarios.{true_abducible, false_abducible}
use Rattle.lanes.specs.Lanes.{lane_bit}

-- The lanes below one.
pub record LanesBelow (end word : ℕ) : Type 0 where
  pub at : (l : ℕ) → l < 64 → lane_bit l word ≡ ltb l end

-- The lanes of a run: from its first one to the one before `end`.
pub record RunLanes (first end word : ℕ) : Type 0 where
  pub at : (l : ℕ) → l < 64 → lane_bit l word ≡ (ltb l end and not (ltb l first))

-- The lanes whose scenario, base + l, has this digit at a power of 3.
pub record DigitLanes (base power digit word : ℕ) : Type 0 where
  pub at : (l : ℕ) → l < 64 → lane_bit l word ≡ eqb ((base + l) / power % 3) digit

-- The true and the false abducible literals of the scenarios base + l, each in its lane, of the judged literals.
pub record AbducibleLanes (p : Program) (base : ℕ) (trues falses : List ℕ) : Type 0 where
  pub true_at : (l o : ℕ) → l < 64 → o < judged p.atoms → lane_bit l (get_or trues o 0) ≡ true_abducible p (base + l) o
  pub false_at : (l o : ℕ) → l < 64 → o < judged p.atoms → lane_bit l (get_or falses o 0) ≡ false_abducible p (base + l) o
