-- Laws of tests joined by "and" and "or".
-- Assumes nothing.
use mathlib.Core.Path.{◌≡◌, refl, sym, subst}
use mathlib.Core.Bool.{Bool, true, false, not, true≢false}
use mathlib.Core.Logic.{◌⊎◌, inl, inr, ⊎_elim}
use Prim.Native.Nat.{ℕ}
use lib.Dec.{T, eqb, eqb→eq, eqb_refl, T_not, not_T}
use Rattle.papers.specs.Tests.{◌and◌, ◌or◌}

-- ---- what holds

pub both : (a b : Bool) → T a → T b → T (a and b)
unfolding ◌and◌
both true b h k = k
both false b h k = h

pub left : (a b : Bool) → T (a and b) → T a
unfolding ◌and◌
left true b h = tt
left false b h = h

pub right : (a b : Bool) → T (a and b) → T b
unfolding ◌and◌
right true b h = h
right false b h = absurd h

pub either_left : (a b : Bool) → T a → T (a or b)
unfolding ◌or◌
either_left true b h = tt
either_left false b h = absurd h

pub either_right : (a b : Bool) → T b → T (a or b)
unfolding ◌or◌
either_right true b h = tt
either_right false b h = h

pub either : (a b : Bool) → T (a or b) → T a ⊎ T b
unfolding ◌or◌
either true b h = inl tt
either false b h = inr h

pub decided : (b : Bool) → T b ⊎ T (not b)
decided true = inl tt
decided false = inr tt

pub neither : (a b : Bool) → (a or b) ≡ false → (a ≡ false) × (b ≡ false)
unfolding ◌or◌
neither true b e = absurd (true≢false e)
neither false b e = (refl, e)

-- A test that holds wherever another does.
pub or_mono : (a b a' b' : Bool) → (T a → T a') → (T b → T b') → T (a or b) → T (a' or b')
or_mono a b a' b' f g h = ⊎_elim (λ x. either_left _ _ (f x)) (λ y. either_right _ _ (g y)) (either _ _ h)

pub and_mono : (a b a' b' : Bool) → (T a → T a') → (T b → T b') → T (a and b) → T (a' and b')
and_mono a b a' b' f g h = both _ _ (f (left _ _ h)) (g (right _ _ h))

-- A test as an equation.
pub is_true : (b : Bool) → T b → b ≡ true
is_true true h = refl
is_true false h = absurd h

pub is_false : (b : Bool) → (T b → ⊥) → b ≡ false
is_false true h = absurd (h tt)
is_false false h = refl

pub passes : (b : Bool) → b ≡ true → T b
passes b e = subst (λ (t : Bool). T t) (sym e) tt

-- Two tests that pass together are equal.
pub same_tests : (a b : Bool) → (T a → T b) → (T b → T a) → a ≡ b
same_tests true true f g = refl
same_tests true false f g = absurd (f tt)
same_tests false true f g = absurd (g tt)
same_tests false false f g = refl

-- Numbers that a test tells apart.
pub differs : (a b : ℕ) → T (not (eqb a b)) → a ≡ b → ⊥
differs a b h e = T_not (eqb a b) h (subst (λ (x : ℕ). T (eqb a x)) e (eqb_refl a))

pub not_equal : (a b : ℕ) → (a ≡ b → ⊥) → T (not (eqb a b))
not_equal a b h = not_T (eqb a b) (λ t. h (eqb→eq a b t))

-- ---- equations

pub not_and : (a b : Bool) → not (a and b) ≡ (not a or not b)
unfolding ◌and◌ ◌or◌
not_and true b = refl
not_and false b = refl

pub not_or : (a b : Bool) → not (a or b) ≡ (not a and not b)
unfolding ◌and◌ ◌or◌
not_or true b = refl
not_or false b = refl

pub or_true : (b : Bool) → (b or true) ≡ true
unfolding ◌or◌
or_true true = refl
or_true false = refl

pub or_false : (b : Bool) → (b or false) ≡ b
unfolding ◌or◌
or_false true = refl
or_false false = refl

pub and_true : (b : Bool) → (b and true) ≡ b
unfolding ◌and◌
and_true true = refl
and_true false = refl

pub and_assoc : (a b c : Bool) → ((a and b) and c) ≡ (a and (b and c))
unfolding ◌and◌
and_assoc true b c = refl
and_assoc false b c = refl

pub or_assoc : (a b c : Bool) → ((a or b) or c) ≡ (a or (b or c))
unfolding ◌or◌
or_assoc true b c = refl
or_assoc false b c = refl

pub true_or : (b : Bool) → (true or b) ≡ true
unfolding ◌or◌
true_or b = refl

pub false_or : (b : Bool) → (false or b) ≡ b
unfolding ◌or◌
false_or b = refl

pub false_and : (b : Bool) → (false and b) ≡ false
unfolding ◌and◌
false_and b = refl

pub true_and : (b : Bool) → (true and b) ≡ b
unfolding ◌and◌
true_and b = refl

pub unless : (a b : Bool) → (a or not b) ≡ not (not a and b)
unfolding ◌and◌ ◌or◌
unless true b = refl
unless false b = refl
