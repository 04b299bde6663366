-- A function applied over and over: a chain whose weight is bounded comes to rest, and the first step that changes nothing is found.
-- Assumes nothing.
use mathlib.Core.Path.{◌≡◌, refl, sym, ap, subst, ◌∙◌}
use mathlib.Core.Bool.{Bool, true, false, cond}
use mathlib.Core.Logic.{◌⊎◌, inl, inr, ⊎_elim}
use Prim.Native.Nat.{ℕ, zero, suc, ◌+◌, ◌-◌, ◌≤◌, ◌<◌}
use native.Mathlib.Nat.{add-zero, add-suc, not-suc-le-zero, le_of_suc-le-suc}
use native.Mathlib.Omega.{arith}
use lib.Dec.{T}
use Rattle.model.specs.Iteration.{iterate, first_still}

module _ {X : Type 0} (f : X → X) where
  -- The first step apart.
  pub iterate_first : (k : ℕ) (x : X) → iterate k f (f x) ≡ iterate (suc k) f x
  unfolding iterate
  iterate_first zero x = refl
  iterate_first (suc k) x = ap f (iterate_first k x)

  -- What f once leaves unchanged it leaves so.
  pub still_on : (x : X) (j k : ℕ) → iterate (suc j) f x ≡ iterate j f x → iterate (j + k) f x ≡ iterate j f x
  unfolding iterate
  still_on x j zero e = rw add-zero
  still_on x j (suc k) e = rw add-suc (ap f (still_on x j k e) ∙ e)

  -- The chain lemma: where a weight, at most b, goes up with each step that changes something, some step up to b changes nothing.
  module _ (x : X) (weight : X → ℕ) (b : ℕ)
      (bounded : (j : ℕ) → weight (iterate j f x) ≤ b)
      (rises : (j : ℕ) → (iterate (suc j) f x ≡ iterate j f x) ⊎ (weight (iterate j f x) < weight (iterate (suc j) f x))) where
    climbs : (j : ℕ) → ((i : ℕ) × (i < j) × (iterate (suc i) f x ≡ iterate i f x)) ⊎ (j ≤ weight (iterate j f x))
    climbs zero = inr (omega arith)
    climbs (suc j) =
        ⊎_elim
        (λ r. inl (r.0, omega arith, r.2))
        (λ l. ⊎_elim (λ q. inl (j, omega arith, q)) (λ m. inr (omega arith)) (rises j))
        (climbs j)

    pub rests : (i : ℕ) × (i ≤ b) × (iterate (suc i) f x ≡ iterate i f x)
    rests = ⊎_elim (λ r. (r.0, omega arith, r.2)) (λ l. absurd (omega (arith, bounded (suc b)))) (climbs (suc b))

    -- So b steps are enough.
    pub rests_at : iterate (suc b) f x ≡ iterate b f x
    unfolding iterate
    rests_at =
        let r = rests in
        let e : r.0 + (b - r.0) ≡ b = omega arith in
        let q : iterate b f x ≡ iterate r.0 f x = rw e at (still_on x r.0 (b - r.0) r.2) in
        ap f q ∙ r.2 ∙ sym q

-- ---- the first step that changes nothing

module _ {X : Type 0} (same : X → X → Bool) (f : X → X) where
  pub first_le : (k : ℕ) (x : X) → first_still same f k x ≤ k
  unfolding first_still
  first_le zero x = omega arith
  first_le (suc k) x = go (same (f x) x) (first_still same f k (f x)) (first_le k (f x)) where
    go : (b : Bool) (r : ℕ) → r ≤ k → cond b zero (suc r) ≤ suc k
    go true r h = omega arith
    go false r h = omega arith

  module _ (same_eq : (x y : X) → T (same x y) → x ≡ y) (same_refl : (x : X) → T (same x x)) where
    -- A test that fails says that the step changes something.
    changes : (x : X) → same (f x) x ≡ false → f x ≡ x → ⊥
    changes x q e = subst T q (rw e (same_refl x))

    one_later : (x : X) (i : ℕ) → iterate (suc (suc i)) f x ≡ iterate (suc i) f x → iterate (suc i) f (f x) ≡ iterate i f (f x)
    one_later x i e = iterate_first f (suc i) x ∙ e ∙ sym (iterate_first f i x)

    still_here : (x : X) (r : ℕ) (b : Bool) → same (f x) x ≡ b → (b ≡ false → iterate (suc r) f (f x) ≡ iterate r f (f x))
        → iterate (suc (cond b zero (suc r))) f x ≡ iterate (cond b zero (suc r)) f x
    unfolding iterate
    still_here x r true q ih = same_eq (f x) x (rw q tt)
    still_here x r false q ih = sym (iterate_first f (suc r) x) ∙ ih refl ∙ iterate_first f r x

    -- Where some step up to k changes nothing, the one that is found does not,
    pub first_still_lem : (k : ℕ) (x : X) (i : ℕ) → i ≤ k → iterate (suc i) f x ≡ iterate i f x
        → iterate (suc (first_still same f k x)) f x ≡ iterate (first_still same f k x) f x
    unfolding first_still iterate
    first_still_lem zero x zero h e = e
    first_still_lem zero x (suc i) h e = absurd (not-suc-le-zero h)
    first_still_lem (suc k) x zero h e =
        still_here x (first_still same f k (f x)) (same (f x) x) refl (λ q. absurd (changes x q e))
    first_still_lem (suc k) x (suc i) h e =
        still_here x (first_still same f k (f x)) (same (f x) x) refl
        (λ q. first_still_lem k (f x) i (le_of_suc-le-suc h) (one_later x i e))

    none_here : (x : X) (r i : ℕ) (b : Bool) → same (f x) x ≡ b → i < cond b zero (suc r) → iterate (suc i) f x ≡ iterate i f x
        → ((j : ℕ) → j < r → iterate (suc j) f (f x) ≡ iterate j f (f x) → ⊥) → ⊥
    unfolding iterate
    none_here x r i true q h e ih = not-suc-le-zero h
    none_here x r zero false q h e ih = changes x q e
    none_here x r (suc i) false q h e ih = ih i (le_of_suc-le-suc h) (one_later x i e)

    -- and each before it does.
    pub none_before : (k : ℕ) (x : X) (i : ℕ) → i < first_still same f k x → iterate (suc i) f x ≡ iterate i f x → ⊥
    unfolding first_still iterate
    none_before zero x i h e = not-suc-le-zero h
    none_before (suc k) x i h e =
        none_here x (first_still same f k (f x)) i (same (f x) x) refl h e (λ j l q. none_before k (f x) j l q)
