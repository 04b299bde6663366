-- Laws of the stopping point.
-- Assumes nothing.
use mathlib.Core.Path.{◌≡◌}
use Prim.Native.Nat.{ℕ, ◌<◌, ◌≤◌}
use native.Mathlib.Omega.{arith}
use native.Mathlib.Decide.{dec_lt}
use lib.Dec.{T}
use lib.ListN.{length, get_or-eq_default}
use Rattle.steps.specs.Explanations.{Problem, scenarios, minimal, minimals, stop}
use Rattle.steps.proofs.Minimals.{nth, prefix_at, listed_at}

module _ (P : Problem) (L : ℕ) where
  pub stop_le : stop P L ≤ scenarios P
  unfolding stop
  stop_le = elim (dec_lt L (length (minimals P (scenarios P)))) [
    | yes l ↦ (let s = (nth P (scenarios P) L (scenarios P) l).small in omega arith)
    | no g ↦ (let e = get_or-eq_default (minimals P (scenarios P)) (scenarios P) {n = L} (omega arith) in omega arith)
  ]

  -- A minimal explanation that finds L of them below it is the stopping point.
  pub stop_here : (p : ℕ) → p < scenarios P → T (minimal P p) → length (minimals P p) ≡ L → stop P L ≡ p
  unfolding stop
  stop_here p l h e = rw (← e) (listed_at P p (scenarios P) (scenarios P) l h)

  -- Up to the stopping point there is room for all.
  pub stop_count : (p : ℕ) → p ≤ stop P L → length (minimals P p) ≤ L
  unfolding stop
  stop_count p h = elim (dec_lt L (length (minimals P p))) [
    | yes l ↦ (
        let s = (nth P p L (scenarios P) l).small in
        let m = stop_le in
        let e = prefix_at P p (scenarios P) L (scenarios P) (omega arith) l in
        omega arith)
    | no g ↦ omega arith
  ]

  -- Short of 3^k the stopping point is a minimal explanation that finds the list full.
  pub stop_full : stop P L < scenarios P → T (minimal P (stop P L)) × (length (minimals P (stop P L)) ≡ L)
  unfolding stop
  stop_full h = elim (dec_lt L (length (minimals P (scenarios P)))) [
    | yes l ↦ (let s = nth P (scenarios P) L (scenarios P) l in (s.is_minimal, s.count))
    | no g ↦ (let e = get_or-eq_default (minimals P (scenarios P)) (scenarios P) {n = L} (omega arith) in absurd (omega arith))
  ]
