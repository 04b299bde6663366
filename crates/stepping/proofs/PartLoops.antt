-- The loop over the digits of a part, and whether an entry is one.
-- Assumes nothing.
use mathlib.Core.Path.{◌≡◌, refl}
use mathlib.Core.Bool.{true, false}
use mathlib.Core.List.{List, [], ◌∷◌}
use mathlib.Core.Logic.{◌⊎◌, inl, inr}
use Prim.Native.Nat.{ℕ, zero, suc, ◌-◌, ◌/◌, ◌%◌, ◌<◌, ◌≤◌}
use native.Mathlib.Omega.{arith}
use borrow.Author.Tests.{eq-eqb, ne_eqb}
use lib.Dec.{eqb}
use Rattle.std.specs.List.{list_any}
use Rattle.papers.specs.Tests.{◌and◌, ◌or◌}
use Rattle.papers.proofs.TestLaws.{or_true}
use Rattle.steps.specs.Explanations.{part_digit, part_of}
use Rattle.steps.specs.Continuing.{contains_one}

-- ---- the digits

digit_fits : (d e : ℕ) → (d ≡ 0) ⊎ (d ≡ e) → part_digit d e ≡ true
unfolding part_digit ◌or◌
digit_fits d e (inl z) = rw (eq-eqb d 0 z)
digit_fits d e (inr s) = rw (eq-eqb d e s) (or_true (eqb d 0))

-- A digit that fits: the others decide.
pub part_next : (k a b : ℕ) → 0 < k → (a % 3 ≡ 0) ⊎ (a % 3 ≡ b % 3) → part_of k a b ≡ part_of (k - 1) (a / 3) (b / 3)
unfolding part_of ◌and◌
part_next zero a b p h = absurd (omega arith)
part_next (suc k) a b p h = let e : suc k - 1 ≡ k = omega arith in rw (e, digit_fits (a % 3) (b % 3) h)

-- A digit that does not.
pub part_not : (k a b : ℕ) → 0 < k → (a % 3 ≡ 0 → ⊥) → (a % 3 ≡ b % 3 → ⊥) → part_of k a b ≡ false
unfolding part_of part_digit ◌and◌ ◌or◌
part_not zero a b p z s = absurd (omega arith)
part_not (suc k) a b p z s = rw (ne_eqb (a % 3) 0 z, ne_eqb (a % 3) (b % 3) s)

-- No digit left.
pub part_done : (k a b : ℕ) → k ≤ 0 → part_of k a b ≡ true
unfolding part_of
part_done zero a b h = refl
part_done (suc k) a b h = absurd (omega arith)

-- ---- the entries

-- What the library answers of any entry.
pub contains_answer : (k p : ℕ) (xs : List ℕ) → list_any (λ x. part_of k x p) xs ≡ contains_one k xs p
unfolding contains_one ◌or◌
contains_answer k p [] = refl
contains_answer k p (x ∷ xs) = rw (contains_answer k p xs)
