-- Document 01, Numberings: "Atom, objective literal, literal and fold numbers are four numberings and never stand for one another."
-- n is the number of atoms, a an atom, o an objective literal, l a literal.
use Rattle.std.specs.Prelude.{ℕ, ◌+◌, ◌*◌, ◌/◌, ◌%◌, Bool, true, false, cond, ltb, eqb, Option, Some, None}
use Rattle.literals.specs.declared.Atom.{Atom}
use Rattle.literals.specs.declared.forms.Form.{Form}
use Rattle.literals.specs.declared.forms.Form.TheVariants as form
use Rattle.literals.specs.Section21.{conj_e, conj_d}

-- "objective literal 2a is atom a"
abbrev pub positive : ℕ → ℕ
positive a = 2 * a

-- "2a+1 is its explicit negation -a"
abbrev pub negative : ℕ → ℕ
negative a = 2 * a + 1

-- back from these two: the atom
abbrev pub atom_number : ℕ → ℕ
atom_number o = o / 2

-- which of these two it is
abbrev pub explicitly_negated : ℕ → Bool
explicitly_negated o = eqb (o % 2) 1

-- "Literal 2o is objective literal o"
abbrev pub literal : ℕ → ℕ
literal o = 2 * o

-- "2o+1 is not(o)"
abbrev pub default_negation : ℕ → ℕ
default_negation o = 2 * o + 1

-- back from these two: the objective literal
abbrev pub objective_number : ℕ → ℕ
objective_number l = l / 2

-- which of these two it is
abbrev pub default_negated : ℕ → Bool
default_negated l = eqb (l % 2) 1

-- so the number of the literal of each form,
unfoldable pub number_of : Form → ℕ
number_of (form.Atom a) = literal (positive a.0)
number_of (form.NegatedAtom a) = literal (negative a.0)
number_of (form.NotAtom a) = default_negation (positive a.0)
number_of (form.NotNegatedAtom a) = default_negation (negative a.0)

-- and back: the form, by whether it is default negated, whether its objective literal is negated, and the atom of that
unfoldable pub form_by : Bool → Bool → Atom → Form
form_by false false a = form.Atom a
form_by false true a = form.NegatedAtom a
form_by true false a = form.NotAtom a
form_by true true a = form.NotNegatedAtom a

unfoldable pub literal_form : ℕ → Form
literal_form l = form_by (default_negated l) (explicitly_negated (objective_number l)) (record { 0 = atom_number (objective_number l) })

-- the objective literal that conj_E gives; where it gives none, which is never so of an objective literal (`explicit_never_none`), o
unfoldable pub objective_or : ℕ → Option Form → ℕ
objective_or o (Some l) = objective_number (number_of l)
objective_or o None = o

-- "these two are conjugates": conj_E by the numbers of objective literals
unfoldable pub explicit_conjugate : ℕ → ℕ
explicit_conjugate o = objective_or o (conj_e (literal_form (literal o)))

-- "the default conjugate (not added or removed)", from document 01, The dual table: conj_D by the numbers of literals
unfoldable pub default_conjugate : ℕ → ℕ
default_conjugate l = number_of (conj_d (literal_form l))

-- "Falsum is objective literal 2n"
abbrev pub falsum : ℕ → ℕ
falsum n = 2 * n

-- "it has no conjugate and no literal in a file": the objective literals that have them are those below it
abbrev pub listed : ℕ → ℕ → Bool
listed n o = ltb o (falsum n)

-- so the literals that a file can name are those below 4n
abbrev pub literal_listed : ℕ → ℕ → Bool
literal_listed n l = ltb l (4 * n)

-- and these have a form
abbrev pub listed_form : ℕ → ℕ → Option Form
listed_form n l = cond (literal_listed n l) (Some (literal_form l)) None

-- "Judged literals: N = 2n+1"
abbrev pub judged : ℕ → ℕ
judged n = 2 * n + 1

-- "Rules have fold numbers from 0 in file order"
abbrev pub fold_of_rule : ℕ → ℕ
fold_of_rule index = index

-- "integrity rules go on from there"
abbrev pub fold_of_integrity : ℕ → ℕ → ℕ
fold_of_integrity rules index = rules + index
