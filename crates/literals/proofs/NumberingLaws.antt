-- Laws of the numberings: a conversion is undone by the one back, conjugates come in pairs, and falsum is not listed.
-- Assumes nothing.
use Prim.Native.Nat.{ℕ, ◌+◌, ◌-◌, ◌*◌, ◌/◌, ◌%◌, ◌<◌}
use mathlib.Core.Path.{◌≡◌, refl, sym, ◌∙◌}
use mathlib.Core.Bool.{Bool, true, false, true≢false}
use native.Mathlib.Decide.{dec_lt}
use native.Mathlib.Omega.{arith}
use borrow.Author.Tests.{eqb-true, eqb-false, lt-ltb, le-ltb}
use Rattle.literals.specs.declared.forms.Form.{Form}
use Rattle.literals.specs.declared.forms.Form.TheVariants as form
use Rattle.std.specs.Prelude.{Some, None}
use Rattle.literals.specs.Section21.{conj_e, conj_d}
use Rattle.literals.specs.Numbering.{positive, negative, atom_number, explicitly_negated, number_of, literal_form, objective_or, explicit_conjugate}
use Rattle.literals.specs.Numbering.{literal, default_negation, objective_number, default_conjugate, falsum, listed}
use Rattle.literals.proofs.FormLaws.{number_of_form, form_of_number, conj_e_one}

-- ---- conversions back

pub atom_of_positive : (a : ℕ) → atom_number (positive a) ≡ a
atom_of_positive a = omega arith

pub atom_of_negative : (a : ℕ) → atom_number (negative a) ≡ a
atom_of_negative a = omega arith

pub objective_of_literal : (o : ℕ) → objective_number (literal o) ≡ o
objective_of_literal o = omega arith

pub objective_of_default_negation : (o : ℕ) → objective_number (default_negation o) ≡ o
objective_of_default_negation o = omega arith

-- ---- the explicit conjugate

pub explicit_of_positive : (a : ℕ) → explicit_conjugate (positive a) ≡ negative a
unfolding explicit_conjugate objective_or conj_e number_of
explicit_of_positive a = rw (form_of_number (form.Atom (record { 0 = a }))) (omega arith)

pub explicit_of_negative : (a : ℕ) → explicit_conjugate (negative a) ≡ positive a
unfolding explicit_conjugate objective_or conj_e number_of
explicit_of_negative a = rw (form_of_number (form.NegatedAtom (record { 0 = a }))) (omega arith)

-- An objective literal is an atom or its negation.
objective_cases : (P : ℕ → Type 0) → ((a : ℕ) → P (positive a)) → ((a : ℕ) → P (negative a)) → (o : ℕ) → P o
objective_cases P bare negated o = go (explicitly_negated o) refl
  where
    go : (b : Bool) → explicitly_negated o ≡ b → P o
    go true h = let e : negative (o / 2) ≡ o = let odd = eqb-true (o % 2) 1 h in omega arith in rw e at (negated (o / 2))
    go false h = let e : positive (o / 2) ≡ o = let even = eqb-false (o % 2) 1 h in omega arith in rw e at (bare (o / 2))

-- both cases in one sum, for omega
pub explicit_sum : (o : ℕ) → explicit_conjugate o ≡ 2 * (o / 2) + (1 - o % 2)
explicit_sum =
    objective_cases (λ o. explicit_conjugate o ≡ 2 * (o / 2) + (1 - o % 2)) (λ a. omega (arith, explicit_of_positive a))
    (λ a. omega (arith, explicit_of_negative a))

pub explicit_twice : (o : ℕ) → explicit_conjugate (explicit_conjugate o) ≡ o
explicit_twice o = omega (arith, explicit_sum o, explicit_sum (explicit_conjugate o))

pub explicit_same_atom : (o : ℕ) → atom_number (explicit_conjugate o) ≡ atom_number o
explicit_same_atom o = omega (arith, explicit_sum o)

pub explicit_below : (n o : ℕ) → o < 2 * n → explicit_conjugate o < 2 * n
explicit_below n o h = omega (arith, explicit_sum o)

-- a number is below 2n exactly if its conjugate is
pub explicit_listed : (n o : ℕ) → listed n (explicit_conjugate o) ≡ listed n o
explicit_listed n o =
    elim (dec_lt o (2 * n)) [
      | yes h ↦ lt-ltb (explicit_conjugate o) (2 * n) (explicit_below n o h) ∙ sym (lt-ltb o (2 * n) h)
      | no h ↦ le-ltb (explicit_conjugate o) (2 * n) (omega (arith, explicit_sum o)) ∙ sym (le-ltb o (2 * n) (omega arith))
    ]

-- ---- the default conjugate

default_sum_of : (l : Form) → number_of (conj_d l) ≡ 2 * (number_of l / 2) + (1 - number_of l % 2)
unfolding number_of conj_d
default_sum_of (form.Atom a) = omega arith
default_sum_of (form.NegatedAtom a) = omega arith
default_sum_of (form.NotAtom a) = omega arith
default_sum_of (form.NotNegatedAtom a) = omega arith

-- the four cases in one sum
pub default_sum : (l : ℕ) → default_conjugate l ≡ 2 * (l / 2) + (1 - l % 2)
unfolding default_conjugate
default_sum l = rw (number_of_form l) at (default_sum_of (literal_form l))

pub default_of_literal : (o : ℕ) → default_conjugate (literal o) ≡ default_negation o
default_of_literal o = omega (arith, default_sum (2 * o))

pub default_of_negation : (o : ℕ) → default_conjugate (default_negation o) ≡ literal o
default_of_negation o = omega (arith, default_sum (2 * o + 1))

pub default_twice : (l : ℕ) → default_conjugate (default_conjugate l) ≡ l
default_twice l = omega (arith, default_sum l, default_sum (default_conjugate l))

pub default_same_objective : (l : ℕ) → objective_number (default_conjugate l) ≡ objective_number l
default_same_objective l = omega (arith, default_sum l)

-- ---- by forms and by numbers

-- The default conjugate of a form is that of its number.
pub default_is : (l : ℕ) → conj_d (literal_form l) ≡ literal_form (default_conjugate l)
unfolding default_conjugate
default_is l = sym (form_of_number (conj_d (literal_form l)))

-- Every objective literal has an explicit conjugate, and it is that of its number;
pub explicit_is : (o : ℕ) → conj_e (literal_form (literal o)) ≡ Some (literal_form (literal (explicit_conjugate o)))
unfolding conj_e number_of
explicit_is =
    objective_cases (λ o. conj_e (literal_form (literal o)) ≡ Some (literal_form (literal (explicit_conjugate o))))
    (λ a. rw (explicit_of_positive a, form_of_number (form.Atom (record { 0 = a })), form_of_number (form.NegatedAtom (record { 0 = a }))))
    (λ a. rw (explicit_of_negative a, form_of_number (form.Atom (record { 0 = a })), form_of_number (form.NegatedAtom (record { 0 = a }))))

pub explicit_never_none : (o : ℕ) → conj_e (literal_form (literal o)) ≡ None → ⊥
explicit_never_none o h = let e = explicit_is o in true≢false cc

-- no default negation has one.
pub negation_has_none : (o : ℕ) → conj_e (literal_form (default_negation o)) ≡ None
negation_has_none o = rw (← default_of_literal o, ← default_is (literal o)) (conj_e_one (literal_form (literal o)) _ (explicit_is o))

-- They commute on objective literals, where document 000 defines both: not(conj_E(O)) is the default conjugate of conj_E(O), and it is the default
-- negation of conj_E of what conj_D(O) is the default negation of.
pub conjugates_commute : (o : ℕ)
    → default_conjugate (literal (explicit_conjugate o)) ≡ default_negation (explicit_conjugate (objective_number (default_conjugate (literal o))))
conjugates_commute o =
    rw (default_of_literal (explicit_conjugate o), default_of_literal o, objective_of_default_negation o)

-- ---- falsum

pub listed_not_falsum : (n o : ℕ) → o < 2 * n → o ≡ falsum n → ⊥
listed_not_falsum n o h e = omega arith

pub falsum_unlisted : (n : ℕ) → listed n (falsum n) ≡ false
falsum_unlisted n = le-ltb (falsum n) (falsum n) (omega arith)
