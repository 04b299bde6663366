-- The file's own checks of what was typed, and what importing a text comes to.
use Rattle.std.specs.Prelude.{Bool, true, false, cond, List, [], ◌∷◌, ℕ, zero, suc}
use Rattle.papers.specs.Program.{Program}
use Rattle.papers.specs.Field.{field_fault}
use Rattle.papers.specs.Content.{atoms_fault, abducibles_fault, body_fault, is_among}
use Rattle.papers.specs.Encoding.{encode_numbers, encode_field}
use Rattle.text.specs.Lines.{Reading, accepted, passing, and_then, Line, lines_of}
use Rattle.text.specs.Typed.{Placed, declared_in, rules_in, integrity_in, program_typed}

-- The checks of a field's heading, as they are made of the field with these numbers.
abbrev pub heading_fault : ℕ → Bool → List ℕ → ℕ
heading_fault tag full numbers = field_fault tag full (encode_field tag (encode_numbers numbers))

-- "Of the line naming the seventeenth different abducible": the place of the first line that declares an atom for which, after those
-- seen, there is no more room.
unfoldable pub overfull_at : ℕ → List ℕ → List (Placed ℕ) → ℕ
overfull_at room seen [] = 0
overfull_at zero seen (d ∷ later) = cond (is_among seen d.it) (overfull_at zero seen later) d.start
overfull_at (suc room) seen (d ∷ later) =
    let again = overfull_at (suc room) seen later in
    let new = overfull_at room (d.it ∷ seen) later in
    cond (is_among seen d.it) again new

-- The fields of one tag, as `read_run` checks them: count (9), length (3), then the content's numbers; "the place being the first token
-- of the line whose field fails".
unfoldable pub check_run : {A : Type 0} → ℕ → ℕ → List ℕ → ℕ → List (Placed (List ℕ)) → Reading A → Reading A
check_run tag n abducibles room [] next = next
check_run tag n abducibles zero (f ∷ later) next = passing (heading_fault tag true f.it) f.start next
check_run tag n abducibles (suc room) (f ∷ later) next =
    passing (heading_fault tag false f.it) f.start
    (passing (body_fault tag n abducibles f.it) f.start
    (check_run tag n abducibles room later next))

-- "Then the file's own numbers, in the order its fields are checked": 02, 03, each 04, each 05. The checks of 02 and those of 03's
-- numbers are made too and never fail.
unfoldable pub check_typed : List Line → Program → Reading Program
check_typed lines p =
    passing (atoms_fault p.atoms) 0
    (passing (heading_fault 0x03 false p.abducibles) (overfull_at 16 [] (declared_in lines))
    (passing (abducibles_fault p.atoms 0 p.abducibles) 0
    (check_run 0x04 p.atoms p.abducibles 1024 (rules_in lines)
    (check_run 0x05 p.atoms p.abducibles 256 (integrity_in lines)
    (accepted p)))))

-- "Import text lines .. into an edition 1 file": the program typed, or the refusal.
unfoldable pub import_text : List ℕ → Reading Program
import_text text = and_then (lines_of text) (λ lines. check_typed lines (program_typed lines))
