-- Part-of is an order on scenarios, and a part of s other than s is smaller than s; and it reads as document 01 says it, digit by
-- digit.
-- Assumes nothing.
use mathlib.Core.Path.{◌≡◌, refl, ◌∙◌, subst}
use mathlib.Core.Logic.{◌⊎◌, inl, inr, ⊎_elim}
use Prim.Native.Nat.{ℕ, zero, suc, ◌/◌, ◌%◌, ◌^◌, ◌<◌, ◌≤◌}
use native.Mathlib.Omega.{arith}
use native.Mathlib.Nat.{div-div-eq-div-mul, pow-succ', div-one}
use lib.Dec.{T, eqb, eqb→eq, eqb_refl}
use Rattle.papers.proofs.TestLaws.{both, left, right, either_left, either_right, either}
use Rattle.steps.specs.Explanations.{part_digit, part_of}

-- ---- digits

pub digit_zero : (d e : ℕ) → d ≡ 0 → T (part_digit d e)
unfolding part_digit
digit_zero d e h = either_left (eqb d 0) (eqb d e) (subst (λ (x : ℕ). T (eqb d x)) h (eqb_refl d))

pub digit_same : (d e : ℕ) → d ≡ e → T (part_digit d e)
unfolding part_digit
digit_same d e h = either_right (eqb d 0) (eqb d e) (subst (λ (x : ℕ). T (eqb d x)) h (eqb_refl d))

pub digit_elim {ℓ} : {X : Type ℓ} (d e : ℕ) → (d ≡ 0 → X) → (d ≡ e → X) → T (part_digit d e) → X
unfolding part_digit
digit_elim d e f g h = ⊎_elim (λ z. f (eqb→eq d 0 z)) (λ s. g (eqb→eq d e s)) (either (eqb d 0) (eqb d e) h)

digit_le : (d e : ℕ) → T (part_digit d e) → d ≤ e
digit_le d e = digit_elim d e (λ h. omega arith) (λ h. omega arith)

digit_trans : (c d e : ℕ) → T (part_digit c d) → T (part_digit d e) → T (part_digit c e)
digit_trans c d e h g =
    digit_elim c d (λ z. digit_zero c e z) (λ p. digit_elim d e (λ z. digit_zero c e (p ∙ z)) (λ q. digit_same c e (p ∙ q)) g) h

-- ---- the order

pub part_refl : (k a : ℕ) → T (part_of k a a)
unfolding part_of
part_refl zero a = tt
part_refl (suc k) a = both (part_digit (a % 3) (a % 3)) (part_of k (a / 3) (a / 3)) (digit_same (a % 3) (a % 3) refl) (part_refl k (a / 3))

pub part_trans : (k a b c : ℕ) → T (part_of k a b) → T (part_of k b c) → T (part_of k a c)
unfolding part_of
part_trans zero a b c h g = tt
part_trans (suc k) a b c h g =
    both (part_digit (a % 3) (c % 3)) (part_of k (a / 3) (c / 3))
    (digit_trans (a % 3) (b % 3) (c % 3) (left (part_digit (a % 3) (b % 3)) _ h) (left (part_digit (b % 3) (c % 3)) _ g))
    (part_trans k (a / 3) (b / 3) (c / 3) (right (part_digit (a % 3) (b % 3)) _ h) (right (part_digit (b % 3) (c % 3)) _ g))

third_lt : (k a : ℕ) → a < 3 ^ suc k → a / 3 < 3 ^ k
third_lt k a h = omega arith

-- A part is at most the whole.
pub part_le : (k a b : ℕ) → a < 3 ^ k → T (part_of k a b) → a ≤ b
unfolding part_of
part_le zero a b l h = omega arith
part_le (suc k) a b l h =
    let low = digit_le (a % 3) (b % 3) (left (part_digit (a % 3) (b % 3)) _ h) in
    let high = part_le k (a / 3) (b / 3) (third_lt k a l) (right (part_digit (a % 3) (b % 3)) _ h) in
    omega arith

-- A part of s other than s is smaller than s.
pub part_lt : (k a s : ℕ) → a < 3 ^ k → T (part_of k a s) → (a ≡ s → ⊥) → a < s
part_lt k a s l h n = let le = part_le k a s l h in omega arith

-- ---- the reading

-- "Digit i of s in base 3, lowest first."
abbrev pub digit : ℕ → ℕ → ℕ
digit i s = s / 3 ^ i % 3

digit_suc : (i s : ℕ) → digit (suc i) s ≡ digit i (s / 3)
digit_suc i s = rw (div-div-eq-div-mul, ← pow-succ')

-- "Nonzero digits, equal where nonzero."
abbrev pub PartOf : ℕ → ℕ → ℕ → Type 0
PartOf k a b = (i : ℕ) → i < k → (digit i a ≡ 0) ⊎ (digit i a ≡ digit i b)

pub part_tells : (k a b : ℕ) → T (part_of k a b) → PartOf k a b
unfolding part_of
part_tells zero a b h i l = absurd (omega arith)
part_tells (suc k) a b h zero l =
    rw (div-one a, div-one b) (digit_elim (a % 3) (b % 3) inl inr (left (part_digit (a % 3) (b % 3)) _ h))
part_tells (suc k) a b h (suc i) l =
    rw (digit_suc i a, digit_suc i b) (part_tells k (a / 3) (b / 3) (right (part_digit (a % 3) (b % 3)) _ h) i (omega arith))

pub part_holds : (k a b : ℕ) → PartOf k a b → T (part_of k a b)
unfolding part_of
part_holds zero a b h = tt
part_holds (suc k) a b h =
    both (part_digit (a % 3) (b % 3)) _
    (⊎_elim (digit_zero (a % 3) (b % 3)) (digit_same (a % 3) (b % 3)) (rw (div-one a, div-one b) at (h 0 (omega arith))))
    (part_holds k (a / 3) (b / 3) (λ i l. rw (digit_suc i a, digit_suc i b) at (h (suc i) (omega arith))))
