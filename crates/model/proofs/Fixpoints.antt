-- A monotone function on sets of n flags: n steps from the empty set reach its least closed set, n from the full one its greatest backed set.
-- Assumes nothing.
use mathlib.Core.Path.{◌≡◌, sym, ◌∙◌}
use mathlib.Core.Logic.{◌⊎◌, inl, inr, ⊎_elim}
use Prim.Native.Nat.{ℕ, zero, suc, ◌-◌, ◌<◌}
use native.Mathlib.Omega.{arith}
use lib.ListN.{length}
use Rattle.model.specs.Sets.{Set, empty, full}
use Rattle.model.specs.Iteration.{iterate}
use Rattle.model.proofs.Chain.{rests_at}
use Rattle.model.proofs.SetLaws.{Sub, length_empty, length_full, sub_trans, empty_sub, sub_full, count, count_le, grows}

module _ (n : ℕ) (f : Set → Set) (sized : (s : Set) → length (f s) ≡ n) (mono : (s t : Set) → Sub s t → Sub (f s) (f t)) where
  pub iterate_sized : (start : Set) → length start ≡ n → (j : ℕ) → length (iterate j f start) ≡ n
  unfolding iterate
  iterate_sized start e zero = e
  iterate_sized start e (suc j) = sized (iterate j f start)

  -- ---- from the empty set up

  up : (j : ℕ) → Sub (iterate j f (empty n)) (iterate (suc j) f (empty n))
  unfolding iterate
  up zero = empty_sub n (f (empty n))
  up (suc j) = mono (iterate j f (empty n)) (iterate (suc j) f (empty n)) (up j)

  pub up_sized : (j : ℕ) → length (iterate j f (empty n)) ≡ n
  up_sized = iterate_sized (empty n) (length_empty n)

  -- It is closed, and holds nothing that f does not give it;
  pub up_fixed : f (iterate n f (empty n)) ≡ iterate n f (empty n)
  unfolding iterate
  up_fixed =
      rests_at f (empty n) count n
      (λ j. omega (arith, count_le (iterate j f (empty n)), up_sized j))
      (λ j. grows (iterate j f (empty n)) (iterate (suc j) f (empty n)) (up_sized j ∙ sym (up_sized (suc j))) (up j))

  up_in : (t : Set) → Sub (f t) t → (j : ℕ) → Sub (iterate j f (empty n)) t
  unfolding iterate
  up_in t h zero = empty_sub n t
  up_in t h (suc j) = sub_trans (mono (iterate j f (empty n)) t (up_in t h j)) h

  -- and it is in every closed set.
  pub up_least : (t : Set) → Sub (f t) t → Sub (iterate n f (empty n)) t
  up_least t h = up_in t h n

  -- ---- from the full set down

  pub down_sized : (j : ℕ) → length (iterate j f (full n)) ≡ n
  down_sized = iterate_sized (full n) (length_full n)

  down : (j : ℕ) → Sub (iterate (suc j) f (full n)) (iterate j f (full n))
  unfolding iterate
  down zero = sub_full n (f (full n)) (sized (full n))
  down (suc j) = mono (iterate (suc j) f (full n)) (iterate j f (full n)) (down j)

  lost : Set → ℕ
  lost s = n - count s

  loses : (j : ℕ) → (iterate (suc j) f (full n) ≡ iterate j f (full n)) ⊎ (lost (iterate j f (full n)) < lost (iterate (suc j) f (full n)))
  unfolding lost
  loses j =
      let l = count_le (iterate j f (full n)) in
      let e = down_sized j in
      ⊎_elim
      (λ q. inl (sym q))
      (λ m. inr (omega arith))
      (grows (iterate (suc j) f (full n)) (iterate j f (full n)) (down_sized (suc j) ∙ sym (down_sized j)) (down j))

  -- Each of its members is backed by it,
  pub down_fixed : f (iterate n f (full n)) ≡ iterate n f (full n)
  unfolding iterate lost
  down_fixed = rests_at f (full n) lost n (λ j. omega arith) loses

  down_holds : (t : Set) → length t ≡ n → Sub t (f t) → (j : ℕ) → Sub t (iterate j f (full n))
  unfolding iterate
  down_holds t e h zero = sub_full n t e
  down_holds t e h (suc j) = sub_trans h (mono t (iterate j f (full n)) (down_holds t e h j))

  -- and it holds every set whose members are backed by it.
  pub down_greatest : (t : Set) → length t ≡ n → Sub t (f t) → Sub t (iterate n f (full n))
  down_greatest t e h = down_holds t e h n
