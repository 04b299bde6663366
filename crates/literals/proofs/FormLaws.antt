-- Laws of the four forms: a number and its form tell one another, and what section 2.1 of document 000 says of the two conjugates together.
-- Assumes nothing.
use Prim.Native.Nat.{ℕ, ◌+◌, ◌*◌, ◌/◌, ◌%◌}
use mathlib.Core.Path.{◌≡◌, refl}
use mathlib.Core.Bool.{Bool, true, false, true≢false}
use native.Mathlib.Omega.{arith}
use borrow.Author.Tests.{eqb-true, eqb-false, eq-eqb, ne_eqb}
use Rattle.literals.specs.declared.Atom.{Atom}
use Rattle.literals.specs.declared.forms.Form.{Form}
use Rattle.literals.specs.declared.forms.Form.TheVariants as form
use Rattle.std.specs.Prelude.{Some, None}
use Rattle.literals.specs.Section21.{conj_e, conj_d}
use Rattle.literals.specs.Numbering.{explicitly_negated, objective_number, default_negated, atom_number, number_of, form_by, literal_form}

-- ---- numbers and forms

-- the number, by the two tests and the atom
by_tests : (b c : Bool) (a : Atom) (l : ℕ) → default_negated l ≡ b → explicitly_negated (objective_number l) ≡ c → atom_number (objective_number l) ≡ a.0
    → number_of (form_by b c a) ≡ l
unfolding number_of form_by
by_tests false false a l d e at = let even = eqb-false (l % 2) 1 d in let bare = eqb-false (l / 2 % 2) 1 e in omega arith
by_tests false true a l d e at = let even = eqb-false (l % 2) 1 d in let negated = eqb-true (l / 2 % 2) 1 e in omega arith
by_tests true false a l d e at = let odd = eqb-true (l % 2) 1 d in let bare = eqb-false (l / 2 % 2) 1 e in omega arith
by_tests true true a l d e at = let odd = eqb-true (l % 2) 1 d in let negated = eqb-true (l / 2 % 2) 1 e in omega arith

-- Every number is that of its form.
pub number_of_form : (l : ℕ) → number_of (literal_form l) ≡ l
unfolding literal_form
number_of_form l = by_tests (default_negated l) (explicitly_negated (objective_number l)) (record { 0 = atom_number (objective_number l) }) l refl refl refl

formed : (b c : Bool) (a : Atom) (l : ℕ) → default_negated l ≡ b → explicitly_negated (objective_number l) ≡ c → atom_number (objective_number l) ≡ a.0
    → literal_form l ≡ form_by b c a
unfolding literal_form
formed b c a l d e at = rw (d, e, at)

-- The form of the four literals of an atom,
module _ (a : Atom) (l : ℕ) where
  pub form_first : l ≡ 4 * a.0 → literal_form l ≡ form.Atom a
  unfolding form_by
  form_first h = formed false false a l (ne_eqb (l % 2) 1 (λ q. omega arith)) (ne_eqb (l / 2 % 2) 1 (λ q. omega arith)) (omega arith)

  pub form_second : l ≡ 4 * a.0 + 1 → literal_form l ≡ form.NotAtom a
  unfolding form_by
  form_second h = formed true false a l (eq-eqb (l % 2) 1 (omega arith)) (ne_eqb (l / 2 % 2) 1 (λ q. omega arith)) (omega arith)

  pub form_third : l ≡ 4 * a.0 + 2 → literal_form l ≡ form.NegatedAtom a
  unfolding form_by
  form_third h = formed false true a l (ne_eqb (l % 2) 1 (λ q. omega arith)) (eq-eqb (l / 2 % 2) 1 (omega arith)) (omega arith)

  pub form_fourth : l ≡ 4 * a.0 + 3 → literal_form l ≡ form.NotNegatedAtom a
  unfolding form_by
  form_fourth h = formed true true a l (eq-eqb (l % 2) 1 (omega arith)) (eq-eqb (l / 2 % 2) 1 (omega arith)) (omega arith)

-- and so every form is that of its number.
pub form_of_number : (l : Form) → literal_form (number_of l) ≡ l
unfolding number_of
form_of_number (form.Atom a) = form_first a (2 * (2 * a.0)) (omega arith)
form_of_number (form.NegatedAtom a) = form_third a (2 * (2 * a.0 + 1)) (omega arith)
form_of_number (form.NotAtom a) = form_second a (2 * (2 * a.0) + 1) (omega arith)
form_of_number (form.NotNegatedAtom a) = form_fourth a (2 * (2 * a.0 + 1) + 1) (omega arith)

-- ---- the two conjugates

-- The default conjugate twice is the literal;
pub conj_d_twice : (l : Form) → conj_d (conj_d l) ≡ l
unfolding conj_d
conj_d_twice (form.Atom a) = refl
conj_d_twice (form.NegatedAtom a) = refl
conj_d_twice (form.NotAtom a) = refl
conj_d_twice (form.NotNegatedAtom a) = refl

-- the explicit one twice is the objective literal.
pub conj_e_twice : (l m : Form) → conj_e l ≡ Some m → conj_e m ≡ Some l
unfolding conj_e
conj_e_twice (form.Atom a) m h = let e : form.NegatedAtom a ≡ m = cc in rw (← e)
conj_e_twice (form.NegatedAtom a) m h = let e : form.Atom a ≡ m = cc in rw (← e)
conj_e_twice (form.NotAtom a) m h = absurd (true≢false cc)
conj_e_twice (form.NotNegatedAtom a) m h = absurd (true≢false cc)

-- Where a literal has an explicit conjugate, its default conjugate has none: of no literal are conj_D(conj_E(..)) and conj_E(conj_D(..)) both defined.
pub conj_e_one : (l m : Form) → conj_e l ≡ Some m → conj_e (conj_d l) ≡ None
unfolding conj_e conj_d
conj_e_one (form.Atom a) m h = refl
conj_e_one (form.NegatedAtom a) m h = refl
conj_e_one (form.NotAtom a) m h = absurd (true≢false cc)
conj_e_one (form.NotNegatedAtom a) m h = absurd (true≢false cc)
