-- A function applied over and over, and the first time that it changes nothing.
use Rattle.std.specs.Prelude.{Bool, cond, ℕ, zero, suc}

module _ {X : Type 0} where
  -- f, k times over.
  unfoldable pub iterate : ℕ → (X → X) → X → X
  iterate zero f x = x
  iterate (suc k) f x = f (iterate k f x)

  -- How often f is applied, from x on, until it changes nothing: at most k times.
  unfoldable pub first_still : (X → X → Bool) → (X → X) → ℕ → X → ℕ
  first_still same f zero x = zero
  first_still same f (suc k) x =
      let next = f x in
      let later = suc (first_still same f k next) in
      cond (same next x) zero later
