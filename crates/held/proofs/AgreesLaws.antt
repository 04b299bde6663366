-- What agreeing reads as: at each held fault, the held digit.
-- Assumes nothing.
use mathlib.Core.Path.{◌≡◌, refl, subst}
use mathlib.Core.Bool.{Bool, true, false}
use Prim.Native.Nat.{ℕ, zero, suc, ◌/◌, ◌%◌, ◌^◌, ◌<◌}
use native.Mathlib.Omega.{arith}
use native.Mathlib.Decide.{ℕ_discrete}
use lib.Dec.{T, eqb→eq, eqb_refl}
use Rattle.papers.specs.Tests.{◌or◌}
use Rattle.papers.proofs.TestLaws.{both, left, right, is_false}
use Rattle.lanes.specs.Lanes.{lane_bit}
use Rattle.held.specs.Masks.{Masks, keeps, agrees_at, agrees}

-- "At every held fault its digit is the held one": 1 where it is held as assumed, 2 where as ruled out.
pub record Agrees (k : ℕ) (m : Masks) (s : ℕ) : Type 0 where
  pub one : (i : ℕ) → i < k → lane_bit i m.assumed ≡ true → s / 3 ^ i % 3 ≡ 1
  pub two : (i : ℕ) → i < k → lane_bit i m.ruled ≡ true → s / 3 ^ i % 3 ≡ 2

keeps_tells : (held : Bool) (digit own : ℕ) → T (keeps held digit own) → held ≡ true → own ≡ digit
unfolding keeps ◌or◌
keeps_tells held digit own t e = eqb→eq own digit (rw e at t)

keeps_holds : (held : Bool) (digit own : ℕ) → (held ≡ true → own ≡ digit) → T (keeps held digit own)
unfolding keeps ◌or◌
keeps_holds true digit own h = rw (h refl) (eqb_refl digit)
keeps_holds false digit own h = tt

agrees_each : (k : ℕ) (m : Masks) (s : ℕ) → T (agrees k m s) → (i : ℕ) → i < k → T (agrees_at m s i)
unfolding agrees
agrees_each zero m s t i h = absurd (omega arith)
agrees_each (suc k) m s t i h = elim (ℕ_discrete i k) [
  | yes e ↦ rw e (right (agrees k m s) (agrees_at m s k) t)
  | no n ↦ agrees_each k m s (left (agrees k m s) (agrees_at m s k) t) i (omega arith)
]

pub agrees_tells : (k : ℕ) (m : Masks) (s : ℕ) → T (agrees k m s) → Agrees k m s
unfolding agrees_at
agrees_tells k m s t = record {
  one = λ i l. keeps_tells (lane_bit i m.assumed) 1 (s / 3 ^ i % 3) (left (keeps (lane_bit i m.assumed) 1 (s / 3 ^ i % 3)) _ (agrees_each k m s t i l));
  two = λ i l. keeps_tells (lane_bit i m.ruled) 2 (s / 3 ^ i % 3) (right (keeps (lane_bit i m.assumed) 1 (s / 3 ^ i % 3)) _ (agrees_each k m s t i l));
}

pub agrees_holds : (k : ℕ) (m : Masks) (s : ℕ) → Agrees k m s → T (agrees k m s)
unfolding agrees agrees_at
agrees_holds zero m s h = tt
agrees_holds (suc k) m s h =
    let rest = agrees_holds k m s (record { one = λ i l. h.one i (omega arith); two = λ i l. h.two i (omega arith) }) in
    let first = keeps_holds (lane_bit k m.assumed) 1 (s / 3 ^ k % 3) (h.one k (omega arith)) in
    let second = keeps_holds (lane_bit k m.ruled) 2 (s / 3 ^ k % 3) (h.two k (omega arith)) in
    both (agrees k m s) _ rest (both (keeps (lane_bit k m.assumed) 1 (s / 3 ^ k % 3)) _ first second)

-- One fault at which a scenario does not agree is enough.
pub agrees_fails : (k : ℕ) (m : Masks) (s i : ℕ) → i < k → agrees_at m s i ≡ false → agrees k m s ≡ false
agrees_fails k m s i h e = is_false (agrees k m s) (λ t. subst T e (agrees_each k m s t i h))
