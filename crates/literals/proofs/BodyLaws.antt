-- Laws of body literals: a number and what is read from it tell one another, and conjugates come in pairs, u with itself.
-- Assumes nothing.
use Prim.Native.Nat.{ℕ, ◌*◌, ◌≤◌, ◌<◌}
use mathlib.Core.Path.{◌≡◌, refl, ap, ◌∙◌}
use mathlib.Core.Bool.{Bool, true, false, cond}
use mathlib.Core.Logic.{◌⊎◌, inl, inr, ⊎_elim}
use native.Mathlib.Omega.{arith}
use borrow.Author.Tests.{eqb-true, eqb-false, ne_eqb, ltb-true, lt-ltb}
use lib.Dec.{eqb}
use Rattle.literals.specs.declared.bodies.BodyLiteral.{BodyLiteral}
use Rattle.literals.specs.declared.bodies.BodyLiteral.TheVariants.{Is, Undefined}
use Rattle.literals.specs.Numbering.{default_conjugate, judged}
use Rattle.literals.specs.BodyLiterals.{body_literal, body_number, body_listed, body_conjugate, conjugate_number, Below}
use Rattle.literals.proofs.NumberingLaws.{default_sum, default_twice, default_same_objective}

-- ---- a number and what is read from it

-- FFFF is u,
pub undefined_read : body_literal 0xFFFF ≡ Undefined
unfolding body_literal
undefined_read = refl

-- and every other number is itself.
pub literal_read : (l : ℕ) → (l ≡ 0xFFFF → ⊥) → body_literal l ≡ Is (record { 0 = l })
unfolding body_literal
literal_read l ne = rw (ne_eqb l 0xFFFF ne)

-- What holds of u, and of every other number by what it is read as, holds of each.
pub body_cases : (P : ℕ → BodyLiteral → Type 0) → P 0xFFFF Undefined
    → ((l : ℕ) → (l ≡ 0xFFFF → ⊥) → P l (Is (record { 0 = l }))) → (l : ℕ) → P l (body_literal l)
unfolding body_literal
body_cases P u other l = go (eqb l 0xFFFF) refl
  where
    go : (b : Bool) → eqb l 0xFFFF ≡ b → P l (cond b Undefined (Is (record { 0 = l })))
    go true e = let is = eqb-true l 0xFFFF e in rw is u
    go false e = other l (eqb-false l 0xFFFF e)

-- The number of what was read is the number.
pub number_back : (l : ℕ) → body_number (body_literal l) ≡ l
unfolding body_number
number_back = body_cases (λ l b. body_number b ≡ l) refl (λ l ne. refl)

-- ---- conjugates

-- "Its default conjugate is itself."
pub undefined_conjugate : conjugate_number 0xFFFF ≡ 0xFFFF
unfolding conjugate_number body_conjugate body_number body_literal
undefined_conjugate = refl

pub literal_conjugate : (l : ℕ) → (l ≡ 0xFFFF → ⊥) → conjugate_number l ≡ default_conjugate l
unfolding conjugate_number body_conjugate body_number
literal_conjugate l ne = rw (literal_read l ne)

pub body_conjugate_twice : (b : BodyLiteral) → body_conjugate (body_conjugate b) ≡ b
unfolding body_conjugate
body_conjugate_twice (Is l) = ap (λ (x : ℕ). Is (record { 0 = x })) (default_twice l.0)
body_conjugate_twice Undefined = refl

-- What is read where a conjugate was written is the conjugate. FFFE, which no file can name, would be read as u.
other_conjugate : (l : ℕ) → (l ≡ 0xFFFE → ⊥) → body_literal (body_number (body_conjugate (Is (record { 0 = l })))) ≡ body_conjugate (Is (record { 0 = l }))
unfolding body_conjugate body_number
other_conjugate l named = literal_read (default_conjugate l) (λ e. named (omega (arith, default_sum l)))

pub conjugate_read : (l : ℕ) → (l ≡ 0xFFFE → ⊥) → body_literal (conjugate_number l) ≡ body_conjugate (body_literal l)
unfolding conjugate_number body_conjugate body_number
conjugate_read =
    body_cases (λ l b. (l ≡ 0xFFFE → ⊥) → body_literal (body_number (body_conjugate b)) ≡ body_conjugate b)
    (λ named. undefined_read)
    (λ l ne named. other_conjugate l named)

-- So conjugates by numbers come in pairs.
pub conjugate_number_twice : (l : ℕ) → (l ≡ 0xFFFE → ⊥) → conjugate_number (conjugate_number l) ≡ l
unfolding conjugate_number
conjugate_number_twice l named =
    ap (λ (b : BodyLiteral). body_number (body_conjugate b)) (conjugate_read l named)
    ∙ ap body_number (body_conjugate_twice (body_literal l))
    ∙ number_back l

-- ---- what a body can have

-- Below 4n, or FFFF.
pub body_listed_fits : (n l : ℕ) → (l < 4 * n) ⊎ (l ≡ 0xFFFF) → body_listed n (body_literal l) ≡ true
unfolding body_listed
body_listed_fits n =
    body_cases (λ l b. (l < 4 * n) ⊎ (l ≡ 0xFFFF) → body_listed n b ≡ true)
    (λ h. refl)
    (λ l ne. ⊎_elim (λ h. lt-ltb l (4 * n) h) (λ e. absurd (ne e)))

pub body_listed_tells : (n l : ℕ) → body_listed n (body_literal l) ≡ true → (l < 4 * n) ⊎ (l ≡ 0xFFFF)
unfolding body_listed
body_listed_tells n =
    body_cases (λ l b. body_listed n b ≡ true → (l < 4 * n) ⊎ (l ≡ 0xFFFF))
    (λ h. inr refl)
    (λ l ne h. inl (ltb-true l (4 * n) h))

-- ---- within the first n objective literals

-- What a body can have is of the judged ones,
pub listed_below : (n l : ℕ) → (l < 4 * n) ⊎ (l ≡ 0xFFFF) → Below (judged n) (body_literal l)
unfolding Below
listed_below n =
    body_cases (λ l b. (l < 4 * n) ⊎ (l ≡ 0xFFFF) → Below (judged n) b)
    (λ h. tt)
    (λ l ne. ⊎_elim (λ h. omega arith) (λ e. absurd (ne e)))

-- of n, so of more,
pub below_more : {n m : ℕ} → n ≤ m → (b : BodyLiteral) → Below n b → Below m b
unfolding Below
below_more h (Is l) k = omega arith
below_more h Undefined k = k

-- and of those of its conjugate.
pub conjugate_below : (n : ℕ) (b : BodyLiteral) → Below n b → Below n (body_conjugate b)
unfolding Below body_conjugate
conjugate_below n (Is l) h = rw (default_same_objective l.0) h
conjugate_below n Undefined h = h

-- FFFE is of none of them.
pub below_named : (n l : ℕ) → n ≤ 0x7FFF → Below n (body_literal l) → l ≡ 0xFFFE → ⊥
unfolding Below
below_named n l few h e = let k : Below n (Is (record { 0 = l })) = rw (literal_read l (λ q. omega arith)) at h in omega arith
