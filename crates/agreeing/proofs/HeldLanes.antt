-- The lanes of a search with held faults, from those of the search without them.
-- Assumes nothing.
use mathlib.Core.Path.{◌≡◌, refl, sym, ap, ap₂, ◌∙◌}
use mathlib.Core.Bool.{Bool, true, false, cond}
use mathlib.Core.List.{List}
use Prim.Native.Nat.{ℕ, ◌+◌, ◌<◌, ◌≤◌}
use native.Mathlib.Omega.{arith}
use lib.Bits.{bit_and}
use lib.ListN.{get_or}
use Rattle.papers.specs.Tests.{◌and◌}
use Rattle.papers.proofs.TestLaws.{true_and}
use Rattle.lanes.specs.Lanes.{lane_bit}
use Rattle.lanes.proofs.LaneLaws.{lane_and, lane_full}
use Rattle.steps.specs.Explanations.{Problem}
use Rattle.stepping.specs.Stepping.{InLanes}
use Rattle.held.specs.declared.Masks.{Masks}
use Rattle.held.specs.Masks.{agrees}
use Rattle.held.specs.HeldProblem.{held_explains, held_rounds, held_problem}
use Rattle.agreeing.specs.AgreeingLanes.{AgreeingLanes, AgreeingRounds}

and_swap : (a b : Bool) → (a and b) ≡ (b and a)
unfolding ◌and◌
and_swap true true = refl
and_swap true false = refl
and_swap false true = refl
and_swap false false = refl

-- ---- the scenarios in their lanes

module _ (P : Problem) (m : Masks) (k base : ℕ) where
  -- Kept to those that agree.
  pub held_lanes : {explained word : ℕ} {rounds after : List ℕ} → InLanes P k base explained rounds → AgreeingLanes k m base word
      → AgreeingRounds word rounds after → InLanes (held_problem P m) k base (bit_and explained word) after
  unfolding held_explains held_rounds
  held_lanes {explained} {word} {rounds} {after} judged agreeing kept = record {
    abducibles = judged.abducibles;
    explains = λ l h.
        lane_and l explained word
        ∙ ap₂ ◌and◌ (judged.explains l h) (agreeing.at l h)
        ∙ and_swap (P.explains (base + l)) (agrees k m (base + l))
        ∙ rw judged.abducibles;
    costs = λ l h.
        kept.at l h
        ∙ ap₂ (λ (b : Bool) (n : ℕ). cond b n 0) (agreeing.at l h) (judged.costs l h)
        ∙ rw judged.abducibles;
  }

  -- Where all agree, as they are.
  pub all_lanes : {explained word : ℕ} {rounds : List ℕ} → InLanes P k base explained rounds → AgreeingLanes k m base word
      → word ≡ 18446744073709551615 → InLanes (held_problem P m) k base explained rounds
  unfolding held_explains held_rounds
  all_lanes {explained} {word} judged agreeing full = record {
    abducibles = judged.abducibles;
    explains = λ l h. judged.explains l h ∙ rw (judged.abducibles, all l h) (sym (true_and (P.explains (base + l))));
    costs = λ l h. judged.costs l h ∙ rw (judged.abducibles, all l h);
  } where
    all : (l : ℕ) → l < 64 → agrees k m (base + l) ≡ true
    all l h = sym (agreeing.at l h) ∙ ap (lane_bit l) full ∙ lane_full l h

-- ---- what a scenario costs at most

cost_le : (agreed : Bool) (n b : ℕ) → n ≤ b → cond agreed n 0 ≤ b
cost_le true n b h = h
cost_le false n b h = omega arith

pub held_cost : {word : ℕ} {rounds after : List ℕ} (b : ℕ) → AgreeingRounds word rounds after → ((l : ℕ) → l < 64 → get_or rounds l 0 ≤ b)
    → (l : ℕ) → l < 64 → get_or after l 0 ≤ b
held_cost {word} {rounds} {after} b kept cost l h = rw (kept.at l h) (cost_le (lane_bit l word) (get_or rounds l 0) b (cost l h))
