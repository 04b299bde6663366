-- The passes over the lines of a text, and what each answers.
use Rattle.std.specs.Prelude.{◌≡◌, Bool, false, not, ◌&&◌, Result, Ok, Err, cond, List, [], ◌∷◌, map}
use Rattle.std.specs.Prelude.{ℕ, zero, suc, ◌+◌, ◌*◌, ◌-◌, ◌≤◌, eqb, length, get_or}
use Rattle.papers.specs.Program.{Program}
use Rattle.papers.specs.Outcome.{check}
use Rattle.papers.specs.Field.{length_allowed}
use Rattle.papers.specs.Content.{is_among}
use Rattle.papers.specs.Encoding.{encode_numbers, encode_field, encode_run, encode_file}
use Rattle.papers.specs.Valid.{All}
use Rattle.papers.specs.Answers.{fields_length}
use Rattle.text.specs.declared.TextRefusal as answer
use Rattle.text.specs.declared.line.Brief.{Brief}
use Rattle.dual.specs.Bytes.{Fills}
use Rattle.text.specs.Lines.{Reading, accepted, refused, Line, fresh, lines_of}
use Rattle.text.specs.Typed.{Placed, placed, its, declared_in, named_in, count_of, program_typed}
use Rattle.text.specs.Importing.{check_run, import_text}
use Rattle.text.specs.Briefly.{tag_of, tag_byte, start_of, numbers_of, brief}
use Rattle.text.specs.Told.{refusal_of}
use Rattle.text.specs.LineAnswers.{lines_at}
use Rattle.text.specs.LineNumbers.{padded}
use Rattle.importing.specs.declared.declaring.Abducibles.{Abducibles}

-- The lines of a text that was read. Of a refused one they are of no use: none.
unfoldable pub lines_in : List ℕ → List Line
lines_in text = accepted_in (lines_of text) where
  accepted_in : Reading (List Line) → List Line
  accepted_in (accepted lines) = lines
  accepted_in (refused r) = []

-- A text that was read, which every pass after the first asks for, and the program that it types.
abbrev pub Typed : List ℕ → Type 0
Typed text = lines_of text ≡ accepted (lines_in text)

abbrev pub typed : List ℕ → Program
typed text = program_typed (lines_in text)

-- ---- the first: 17 and 18, and the atom count

abbrev pub survey_answer : Reading (List Line) → Reading ℕ
survey_answer (accepted lines) = accepted (count_of (named_in lines))
survey_answer (refused r) = refused r

-- ---- the second: the abducibles

-- Whether a line declares an atom whose flag is not set.
unfoldable pub new_in : Brief → List Bool → Bool
new_in b flags = eqb (tag_byte b.kind) 0x03 && not (get_or flags b.atom false)

-- The flags that are set are those of these atoms.
abbrev pub Flagged : List Bool → List ℕ → Type 0
Flagged flags atoms = (a : ℕ) → get_or flags a false ≡ is_among atoms a

abbrev pub declared_names : List ℕ → List ℕ
declared_names text = map its (declared_in (lines_in text))

-- They are the declared ones and there are not too many; or the refusal.
abbrev pub DeclareTells : List ℕ → Result (List Bool) answer.TextRefusal → Type 0
DeclareTells text (Ok flags) = Flagged flags (declared_names text) × (length (typed text).abducibles ≤ 16)
DeclareTells text (Err r) = import_text text ≡ refused (refusal_of r)

-- Of `count` atoms from one on those whose flag is set.
unfoldable pub flagged_from : List Bool → ℕ → ℕ → List ℕ
flagged_from flags atom zero = []
flagged_from flags atom (suc count) =
    let later = flagged_from flags (atom + 1) count in
    cond (get_or flags atom false) (atom ∷ later) later

-- Atoms, by how many they are and the first 17 of them.
abbrev pub list_of : List ℕ → Abducibles
list_of atoms = record { count = length atoms; numbers = padded 17 atoms }

-- ---- the third and the fourth: the rules and the integrity rules, by their tag

-- The lines of one tag, each with its place and its numbers.
unfoldable pub fields_in : ℕ → List Line → List (Placed (List ℕ))
fields_in tag [] = []
fields_in tag (line ∷ later) =
    let more = fields_in tag later in
    cond (eqb (tag_of line) tag) (placed (start_of line) (numbers_of line) ∷ more) more

abbrev pub contents_in : ℕ → List ℕ → List (List ℕ)
contents_in tag text = map its (fields_in tag (lines_in text))

-- Whether a rule is headed by a flagged atom or its negation.
unfoldable pub fixed_in : Brief → ℕ → List Bool → Bool
fixed_in b tag flags = eqb tag 0x04 && get_or flags b.atom false

-- The number by which a line fails that is of the tag, where there is room for so many more: count (9), length (3), head (8).
unfoldable pub line_number : Brief → ℕ → ℕ → Bool → ℕ
line_number b tag room fixed =
    cond (eqb (tag_byte b.kind) tag)
    (check (not (eqb room 0)) 9 (check (length_allowed tag (2 * b.count)) 3 (check (not fixed) 8 0)))
    0

unfoldable pub room_after : Brief → ℕ → ℕ → ℕ
room_after b tag room = cond (eqb (tag_byte b.kind) tag) (room - 1) room

unfoldable pub size_after : Brief → ℕ → ℕ → ℕ
size_after b tag size = cond (eqb (tag_byte b.kind) tag) (size + (3 + 2 * b.count)) size

-- The fields of a tag pass the checks of `read_run` and have so many bytes, or fail them by this refusal.
abbrev pub RunTells : List ℕ → ℕ → ℕ → Result ℕ answer.TextRefusal → Type 0
RunTells text tag most (Ok size) =
    ((next : Reading Program) → check_run tag (typed text).atoms (typed text).abducibles most (fields_in tag (lines_in text)) next ≡ next)
    × (size ≡ fields_length (contents_in tag text))
RunTells text tag most (Err r) =
    (next : Reading Program) → check_run tag (typed text).atoms (typed text).abducibles most (fields_in tag (lines_in text)) next
    ≡ refused (refusal_of r)

-- Their checks one after the other.
abbrev pub runs_checked : List ℕ → Reading Program → Reading Program
runs_checked text next =
    check_run 0x04 (typed text).atoms (typed text).abducibles 1024 (fields_in 0x04 (lines_in text))
    (check_run 0x05 (typed text).atoms (typed text).abducibles 256 (fields_in 0x05 (lines_in text)) next)

-- The rules pass, and then the integrity rules; the lengths of both.
abbrev pub RunsTell : List ℕ → Result (ℕ × ℕ) answer.TextRefusal → Type 0
RunsTell text (Ok lengths) =
    ((next : Reading Program) → runs_checked text next ≡ next)
    × ((lengths.0 ≡ fields_length (contents_in 0x04 text)) × (lengths.1 ≡ fields_length (contents_in 0x05 text)))
RunsTell text (Err r) = (next : Reading Program) → runs_checked text next ≡ refused (refusal_of r)

-- ---- the last two: writing them

-- The bytes of a line of the tag.
unfoldable pub line_bytes : ℕ → Line → List ℕ
line_bytes tag line = cond (eqb (tag_of line) tag) (encode_field tag (encode_numbers (numbers_of line))) []

-- A line of the tag fits, and has as many numbers as it may.
pub record LineFits (text : List ℕ) (at : ℕ) (b : Brief) (tag room : ℕ) : Type 0 where
  pub line : Line
  pub rest : List Line
  pub here : lines_at text fresh at ≡ accepted (line ∷ rest)
  pub briefly : b ≡ brief line
  pub within : at ≤ length text
  pub small : tag_of line ≡ tag → length (numbers_of line) ≤ 17
  pub fits : length (line_bytes tag line) ≤ room

abbrev pub LineFills : List ℕ → ℕ → ℕ → List ℕ → ℕ → List ℕ → Type 0
LineFills text at tag buffer count after =
    (line : Line) (rest : List Line) → lines_at text fresh at ≡ accepted (line ∷ rest) → Fills (line_bytes tag line) buffer count after

-- A list that is no longer than so many.
pub record Within (most : ℕ) (l : List ℕ) : Type 0 where
  pub fits : length l ≤ most

-- There is room for the fields of a tag, and each has as many numbers as it may.
pub record RunFits (text : List ℕ) (tag room : ℕ) : Type 0 where
  pub read : Typed text
  pub small : All (Within 17) (contents_in tag text)
  pub fits : length (encode_run tag (contents_in tag text)) ≤ room

-- A text that was read, of which no field has too many numbers.
pub record Sized (text : List ℕ) : Type 0 where
  pub read : Typed text
  pub rules : All (Within 17) (contents_in 0x04 text)
  pub integrity : All (Within 17) (contents_in 0x05 text)

-- There is room for the file of a text that may be imported.
pub record FileFits (text : List ℕ) (atoms : ℕ) (list : Abducibles) (room : ℕ) : Type 0 where
  pub imported : import_text text ≡ accepted (typed text)
  pub count : atoms ≡ (typed text).atoms
  pub abducibles : list ≡ list_of (typed text).abducibles
  pub fits : length (encode_file (typed text)) ≤ room
