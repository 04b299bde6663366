-- Document 000, section 2.1, by the four forms of a literal: A, -A, not(A) and not(-A).
use Rattle.std.specs.Prelude.{Option, Some, None}
use Rattle.literals.specs.declared.forms.Form.{Form}
use Rattle.literals.specs.declared.forms.Form.TheVariants.{Atom, NegatedAtom, NotAtom, NotNegatedAtom}

-- "If an objective literal O is an atom A, the explicit conjugate of O (conj_E(O)) is the atom -A; otherwise if O has the form -A, the explicit
-- conjugate of O is A." A default negation is no objective literal and has none.
unfoldable pub conj_e : Form → Option Form
conj_e (Atom a) = Some (NegatedAtom a)
conj_e (NegatedAtom a) = Some (Atom a)
conj_e (NotAtom a) = None
conj_e (NotNegatedAtom a) = None

-- "the default conjugate (conj_D(O)) of an objective literal O is not(O), and the default conjugate of not(O) is O"
unfoldable pub conj_d : Form → Form
conj_d (Atom a) = NotAtom a
conj_d (NegatedAtom a) = NotNegatedAtom a
conj_d (NotAtom a) = Atom a
conj_d (NotNegatedAtom a) = NegatedAtom a
