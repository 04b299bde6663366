-- One step, case by case, over plain variables.
-- Assumes nothing.
use mathlib.Core.Path.{◌≡◌, refl}
use mathlib.Core.Bool.{Bool, true, false, cond, true≢false}
use mathlib.Core.List.{List}
use mathlib.Core.Logic.{◌⊎◌, inl, inr}
use Prim.Native.Nat.{ℕ, ◌+◌, ◌<◌, ◌≤◌}
use borrow.Author.Tests.{ltb-true, ltb-false, eq-eqb, ne_eqb, lt-ltb, le-ltb}
use lib.Dec.{eqb, ltb}
use lib.ListN.{length, take, set}
use Rattle.steps.specs.Explanations.{Problem, scenarios}
use Rattle.steps.specs.Continuing.{new_to, Move, stands, tries, writes, move, Work, work, step}

-- ---- what a step does, over plain variables

module _ (P : Problem) (p f : ℕ) (l : List ℕ) where
  pub move_end : p ≡ scenarios P → move P p f l ≡ stands
  unfolding move
  move_end e = rw (eq-eqb p (scenarios P) e)

  module _ (inside : p ≡ scenarios P → ⊥) where
    pub move_tries : new_to P (take f l) p ≡ false → move P p f l ≡ tries
    unfolding move
    move_tries e = rw (ne_eqb p (scenarios P) inside, e)

    pub move_writes : new_to P (take f l) p ≡ true → f < length l → move P p f l ≡ writes
    unfolding move
    move_writes e h = rw (ne_eqb p (scenarios P) inside, e, lt-ltb f (length l) h)

    pub move_full : new_to P (take f l) p ≡ true → length l ≤ f → move P p f l ≡ stands
    unfolding move
    move_full e h = rw (ne_eqb p (scenarios P) inside, e, le-ltb f (length l) h)

  -- Where a step stands still short of 3^k, a new explanation finds the list full.
  pub move_stands : (p ≡ scenarios P → ⊥) → move P p f l ≡ stands → (new_to P (take f l) p ≡ true) × (length l ≤ f)
  unfolding move
  move_stands inside e = go (new_to P (take f l) p) (ltb f (length l)) refl refl (rw (ne_eqb p (scenarios P) inside) at e)
    where
      go : (x y : Bool) → new_to P (take f l) p ≡ x → ltb f (length l) ≡ y → cond x (cond y writes stands) tries ≡ stands
          → (new_to P (take f l) p ≡ true) × (length l ≤ f)
      go true true a b h = absurd (true≢false cc)
      go true false a b h = (a, ltb-false f (length l) b)
      go false y a b h = absurd (true≢false cc)

  -- Where a step only tries, its scenario is not new.
  pub move_tries_old : move P p f l ≡ tries → new_to P (take f l) p ≡ false
  unfolding move
  move_tries_old e = go (eqb p (scenarios P)) (new_to P (take f l) p) (ltb f (length l)) refl e
    where
      go : (x y z : Bool) → new_to P (take f l) p ≡ y → cond x stands (cond y (cond z writes stands) tries) ≡ tries → new_to P (take f l) p ≡ false
      go true y z a h = absurd (true≢false cc)
      go false true true a h = absurd (true≢false cc)
      go false true false a h = absurd (true≢false cc)
      go false false z a h = a

  -- Where a step writes, its scenario is new, and there is room.
  pub move_writes_new : move P p f l ≡ writes → new_to P (take f l) p ≡ true
  unfolding move
  move_writes_new e = go (eqb p (scenarios P)) (new_to P (take f l) p) refl e
    where
      go : (x y : Bool) → new_to P (take f l) p ≡ y → cond x stands (cond y (cond (ltb f (length l)) writes stands) tries) ≡ writes
          → new_to P (take f l) p ≡ true
      go true y a h = absurd (true≢false cc)
      go false true a h = a
      go false false a h = absurd (true≢false cc)

  pub move_writes_tells : move P p f l ≡ writes → f < length l
  unfolding move
  move_writes_tells e = go (eqb p (scenarios P)) (new_to P (take f l) p) (ltb f (length l)) refl e
    where
      go : (x y z : Bool) → ltb f (length l) ≡ z → cond x stands (cond y (cond z writes stands) tries) ≡ writes → f < length l
      go true y z a h = absurd (true≢false cc)
      go false true true a h = ltb-true f (length l) a
      go false true false a h = absurd (true≢false cc)
      go false false z a h = absurd (true≢false cc)

  -- ---- the step by its move

  module _ (t r : ℕ) where
    pub step_stands : move P p f l ≡ stands → step P (work p f l t r) ≡ work p f l t r
    unfolding step
    step_stands e = rw (e, step)

    pub step_tries : move P p f l ≡ tries → step P (work p f l t r) ≡ work (p + 1) f l (t + 1) (r + P.rounds p)
    unfolding step
    step_tries e = rw (e, step)

    pub step_writes : move P p f l ≡ writes → step P (work p f l t r) ≡ work (p + 1) (f + 1) (set l f p) (t + 1) (r + P.rounds p)
    unfolding step
    step_writes e = rw (e, step)

    -- At the end it stands still.
    pub step_end : p ≡ scenarios P → step P (work p f l t r) ≡ work p f l t r
    step_end e = step_stands (move_end e)

-- ---- of any step

-- A step that moves on tries one scenario.
pub record Onward (s next : Work) : Type 0 where
  pub position : next.position ≡ s.position + 1
  pub tried : next.tried ≡ s.tried + 1

-- A step stands still or moves on.
pub step_either : (P : Problem) (s : Work) → ((move P s.position s.found s.list ≡ stands) × (step P s ≡ s)) ⊎ Onward s (step P s)
unfolding step
step_either P s = go (move P s.position s.found s.list) refl
  where
    go : (m : Move) → move P s.position s.found s.list ≡ m
        → ((move P s.position s.found s.list ≡ stands) × (step P s ≡ s)) ⊎ Onward s (step P s)
    go stands e = inl (e, rw (e, step))
    go tries e = inr (rw (e, step) (record { position = refl; tried = refl }))
    go writes e = inr (rw (e, step) (record { position = refl; tried = refl }))
