-- The four literals of atom 1, their forms and their conjugates.
-- Assumes nothing.
use mathlib.Core.Path.{◌≡◌, refl}
use mathlib.Core.List.{[], ◌∷◌, map}
use Rattle.literals.specs.declared.Atom.{Atom}
use Rattle.literals.specs.declared.forms.Form.TheVariants as form
use Rattle.std.specs.Prelude.{Some, None}
use Rattle.literals.specs.Section21.{conj_e}
use Rattle.literals.specs.Numbering.{literal_form, explicit_conjugate, default_conjugate}
use Rattle.literals.specs.ComputingConjugates.{conjugating}

abbrev pub p1 : Atom
p1 = record { 0 = 1 }

-- p1, not p1, -p1 and not -p1,
pub forms_of_p1 : map literal_form (4 ∷ 5 ∷ 6 ∷ 7 ∷ []) ≡ form.Atom p1 ∷ form.NotAtom p1 ∷ form.NegatedAtom p1 ∷ form.NotNegatedAtom p1 ∷ []
unfolding conjugating
forms_of_p1 = refl

-- of which the default conjugates are not p1, p1, not -p1 and -p1,
pub default_of_p1 : map default_conjugate (4 ∷ 5 ∷ 6 ∷ 7 ∷ []) ≡ 5 ∷ 4 ∷ 7 ∷ 6 ∷ []
unfolding conjugating
default_of_p1 = refl

-- and which have the explicit conjugates -p1, none, p1 and none.
pub explicit_of_p1 : map (λ l. conj_e (literal_form l)) (4 ∷ 5 ∷ 6 ∷ 7 ∷ []) ≡ Some (form.NegatedAtom p1) ∷ None ∷ Some (form.Atom p1) ∷ None ∷ []
unfolding conjugating
explicit_of_p1 = refl

-- By objective literals' numbers.
pub explicit_numbers : map explicit_conjugate (2 ∷ 3 ∷ []) ≡ 3 ∷ 2 ∷ []
unfolding conjugating
explicit_numbers = refl
