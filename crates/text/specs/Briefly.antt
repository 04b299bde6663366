-- The automaton of a line as the code runs it: of what a line says it holds all but the literals.
use Rattle.std.specs.Prelude.{Bool, true, false, cond, List, [], ◌∷◌, ℕ, ◌+◌, ◌/◌, eqb, ltb, length}
use Rattle.text.specs.declared.line.LineKind.{LineKind}
use Rattle.text.specs.declared.line.LineKind.TheVariants as types
use Rattle.text.specs.declared.line.Brief.{Brief}
use Rattle.text.specs.declared.line.Stage.{Stage}
use Rattle.text.specs.declared.line.Stage.TheVariants as stage
use Rattle.text.specs.declared.line.Move.{Move}
use Rattle.text.specs.declared.line.Move.TheVariants.{Goes, Ends, Bars}
use Rattle.text.specs.Lines.{Line, abducible, rule, integrity, State, fresh, declaring, declared, negated, headed, due, denied, negated_in}
use Rattle.text.specs.Lines.{denied_negated, said, Step, goes, ends, bars, is_atom, is_minus, is_not, is_arrow, is_comma, is_stop, is_abducible, is_false}
use Rattle.text.specs.Typed.{named_in, larger, count_of}

-- The tag of the field to which a line belongs, the place of its first token, and its numbers there.
unfoldable pub tag_of : Line → ℕ
tag_of (abducible start a) = 0x03
tag_of (rule start head body) = 0x04
tag_of (integrity start body) = 0x05

-- What a line types, and the tag of its field.
unfoldable pub kind_of_line : Line → LineKind
kind_of_line (abducible start a) = types.Abducible
kind_of_line (rule start head body) = types.Rule
kind_of_line (integrity start body) = types.Integrity

abbrev pub tag_byte : LineKind → ℕ
tag_byte types.Abducible = 0x03
tag_byte types.Rule = 0x04
tag_byte types.Integrity = 0x05

unfoldable pub start_of : Line → ℕ
start_of (abducible start a) = start
start_of (rule start head body) = start
start_of (integrity start body) = start

unfoldable pub numbers_of : Line → List ℕ
numbers_of (abducible start a) = a ∷ []
numbers_of (rule start head body) = head ∷ body
numbers_of (integrity start body) = body

-- How many, 18 standing for 18 or more: no field has so many numbers.
unfoldable pub few : ℕ → ℕ
few n = cond (ltb n 18) n 18

-- The atom that a line declares, or that of its head.
unfoldable pub atom_of : Line → ℕ
atom_of (abducible start a) = a
atom_of (rule start head body) = head / 2
atom_of (integrity start body) = 0

abbrev pub briefly : LineKind → ℕ → ℕ → ℕ → ℕ → Brief
briefly kind start atom above count = record { kind = kind; start = start; atom = atom; above = above; count = count }

-- A line, briefly.
unfoldable pub brief : Line → Brief
brief line = briefly (kind_of_line line) (start_of line) (atom_of line) (count_of (named_in (line ∷ []))) (few (length (numbers_of line)))

abbrev pub stage_of : State → Stage
stage_of fresh = stage.Fresh
stage_of (declaring start) = stage.Declaring start
stage_of (declared line) = stage.Declared (brief line)
stage_of (negated start) = stage.Negated start
stage_of (headed line) = stage.Headed (brief line)
stage_of (due line) = stage.Due (brief line)
stage_of (denied line) = stage.Denied (brief line)
stage_of (negated_in line) = stage.NegatedIn (brief line)
stage_of (denied_negated line) = stage.DeniedNegated (brief line)
stage_of (said line) = stage.Said (brief line)

abbrev pub move_of : Step → Move
move_of (goes s) = Goes (stage_of s)
move_of (ends line) = Ends (brief line)
move_of bars = Bars

-- A line that begins with `false`, and one that begins with an atom.
abbrev pub denial_briefly : ℕ → Brief
denial_briefly start = briefly types.Integrity start 0 1 0

abbrev pub opened_briefly : LineKind → ℕ → ℕ → Brief
opened_briefly kind start a = briefly kind start a (a + 1) 1

-- One more literal, of an atom.
unfoldable pub also_briefly : Brief → ℕ → Brief
also_briefly b a = cond (eqb (tag_byte b.kind) 0x03) b (briefly b.kind b.start b.atom (larger b.above (a + 1)) (few (b.count + 1)))

-- What a token does.
unfoldable pub step_briefly : Stage → ℕ → ℕ → ℕ → Move
step_briefly stage.Fresh place kind a =
    cond (is_abducible kind) (Goes (stage.Declaring place))
    (cond (is_false kind) (Goes (stage.Headed (denial_briefly place)))
    (cond (is_minus kind) (Goes (stage.Negated place))
    (cond (is_atom kind) (Goes (stage.Headed (opened_briefly types.Rule place a))) Bars)))
step_briefly (stage.Declaring start) place kind a = cond (is_atom kind) (Goes (stage.Declared (opened_briefly types.Abducible start a))) Bars
step_briefly (stage.Declared b) place kind a = cond (is_stop kind) (Ends b) Bars
step_briefly (stage.Negated start) place kind a = cond (is_atom kind) (Goes (stage.Headed (opened_briefly types.Rule start a))) Bars
step_briefly (stage.Headed b) place kind a = cond (is_stop kind) (Ends b) (cond (is_arrow kind) (Goes (stage.Due b)) Bars)
step_briefly (stage.Due b) place kind a =
    cond (is_not kind) (Goes (stage.Denied b))
    (cond (is_minus kind) (Goes (stage.NegatedIn b))
    (cond (is_atom kind) (Goes (stage.Said (also_briefly b a))) Bars))
step_briefly (stage.Denied b) place kind a =
    cond (is_minus kind) (Goes (stage.DeniedNegated b))
    (cond (is_atom kind) (Goes (stage.Said (also_briefly b a))) Bars)
step_briefly (stage.NegatedIn b) place kind a = cond (is_atom kind) (Goes (stage.Said (also_briefly b a))) Bars
step_briefly (stage.DeniedNegated b) place kind a = cond (is_atom kind) (Goes (stage.Said (also_briefly b a))) Bars
step_briefly (stage.Said b) place kind a = cond (is_comma kind) (Goes (stage.Due b)) (cond (is_stop kind) (Ends b) Bars)

-- Whether no token of the line was read.
abbrev pub is_fresh : Stage → Bool
is_fresh stage.Fresh = true
is_fresh (stage.Declaring start) = false
is_fresh (stage.Declared b) = false
is_fresh (stage.Negated start) = false
is_fresh (stage.Headed b) = false
is_fresh (stage.Due b) = false
is_fresh (stage.Denied b) = false
is_fresh (stage.NegatedIn b) = false
is_fresh (stage.DeniedNegated b) = false
is_fresh (stage.Said b) = false
