-- The general rule, on any record that passes test 14: "continue with allowance w from position p tries min(w, stop - p) scenarios",
-- where the stopping point is "the first such scenario at or after p that finds the list full, else 3^k" (that it is the first: `First`).
-- Assumes nothing.
use mathlib.Core.Path.{◌≡◌, refl, ap, ◌∙◌}
use mathlib.Core.Bool.{true}
use mathlib.Core.List.{List}
use mathlib.Core.Logic.{⊎_elim}
use Prim.Native.Nat.{ℕ, ◌+◌, ◌-◌, ◌<◌, ◌≤◌, min}
use native.Mathlib.Omega.{arith}
use native.Mathlib.Decide.{dec_lt}
use lib.ListN.{length, take}
use Rattle.steps.specs.Explanations.{Problem, scenarios}
use Rattle.steps.specs.Continuing.{Record, new_to, Work, step, steps, begun, continue, stop_from}
use Rattle.steps.proofs.Steps.{move_stands, step_end, Onward, step_either}
use Rattle.steps.proofs.Runs.{Gone, steps_add, steps_still, steps_gone, steps_either}

-- Where n steps come to stand still, w steps lead there, or by w further.
module _ (P : Problem) (s : Work) (n : ℕ) (still : step P (steps P n s) ≡ steps P n s) where
  steps_beyond : (w : ℕ) → n ≤ w → steps P w s ≡ steps P n s
  steps_beyond w h =
      let split : w ≡ n + (w - n) = omega arith in
      ap (λ (m : ℕ). steps P m s) split ∙ steps_add P n (w - n) s ∙ steps_still P (w - n) (steps P n s) still

  steps_within : (w : ℕ) → w ≤ n → steps P n s ≡ steps P (n - w) (steps P w s)
  steps_within w h =
      let split : n ≡ w + (n - w) = omega arith in
      ap (λ (m : ℕ). steps P m s) split ∙ steps_add P w (n - w) s

  pub steps_position : (w : ℕ) → (steps P w s).position ≡ min (steps P n s).position (s.position + w)
  steps_position w = elim (dec_lt n w) [
    | yes h ↦ (
        let e = ap (λ (z : Work). z.position) (steps_beyond w (omega arith)) in
        let g = steps_gone P n s in
        omega arith)
    | no h ↦ (
        let e = ap (λ (z : Work). z.position) (steps_within w (omega arith)) in
        let g = steps_gone P w s in
        let more = steps_gone P (n - w) (steps P w s) in
        ⊎_elim (λ k. stood (ap (λ (z : Work). z.position) (steps_still P (n - w) (steps P w s) k)) e g) (λ k. moved k e more) (steps_either P w s))
  ]
    where
      p : ℕ
      p = (steps P w s).position

      q : ℕ
      q = (steps P (n - w) (steps P w s)).position

      stood : q ≡ p → (steps P n s).position ≡ q → Gone w s (steps P w s) → p ≡ min (steps P n s).position (s.position + w)
      stood k e g = omega arith

      moved : p ≡ s.position + w → (steps P n s).position ≡ q → Gone (n - w) (steps P w s) (steps P (n - w) (steps P w s))
          → p ≡ min (steps P n s).position (s.position + w)
      moved k e g = omega arith

module _ (P : Problem) (r : Record) (l : List ℕ) where
  -- What a search holds when it comes to the stopping point.
  unfoldable pub at_stop : Work
  at_stop = steps P (scenarios P - r.position) (begun r l)

  pub stop_there : stop_from P r l ≡ at_stop.position
  unfolding stop_from at_stop
  stop_there = refl

module _ (P : Problem) (r : Record) (l : List ℕ) (within : r.position ≤ scenarios P) where
  -- Steps without end stand still there.
  pub stop_still : step P (at_stop P r l) ≡ at_stop P r l
  unfolding at_stop
  stop_still =
      let s = steps P (scenarios P - r.position) (begun r l) in
      ⊎_elim (λ h. h) (λ e. step_end P s.position s.found s.list s.tried s.rounds (omega arith))
      (steps_either P (scenarios P - r.position) (begun r l))

  -- "At or after p", and at most 3^k.
  pub stop_from_least : r.position ≤ stop_from P r l
  unfolding stop_from
  stop_from_least = (steps_gone P (scenarios P - r.position) (begun r l)).least

  pub stop_from_most : stop_from P r l ≤ scenarios P
  unfolding stop_from
  stop_from_most = let g = (steps_gone P (scenarios P - r.position) (begun r l)).most in omega arith

  -- Short of 3^k it is an explanation containing no listed entry's assumptions, and it finds the list full.
  pub stop_from_finds : stop_from P r l < scenarios P
      → (new_to P (take (at_stop P r l).found (at_stop P r l).list) (stop_from P r l) ≡ true) × (length (at_stop P r l).list ≤ (at_stop P r l).found)
  stop_from_finds h =
      let s = at_stop P r l in
      let e = stop_there P r l in
      rw e (⊎_elim (λ z. move_stands P s.position s.found s.list (λ q. omega arith) z.0) (λ o. absurd (never o)) (step_either P s))
    where
      never : Onward (at_stop P r l) (step P (at_stop P r l)) → ⊥
      never o = let e = ap (λ (z : Work). z.position) stop_still in omega arith

  -- "Tries min(w, stop - p) scenarios", and the new position is "p plus tried".
  pub continue_tries : (w : ℕ) → (continue P w r l).tried ≡ min w (stop_from P r l - r.position)
  unfolding continue stop_from at_stop
  continue_tries w =
      let g = steps_gone P w (begun r l) in
      let e = steps_position P (begun r l) (scenarios P - r.position) stop_still w in
      let h = steps_gone P (scenarios P - r.position) (begun r l) in
      omega arith

  pub continue_position : (w : ℕ) → (continue P w r l).new.position ≡ r.position + (continue P w r l).tried
  unfolding continue
  continue_position w = let g = steps_gone P w (begun r l) in omega arith
