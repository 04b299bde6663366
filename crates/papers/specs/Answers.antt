-- What this crate's functions answer, as document 01's numbers and values: an accepted paper by its counts and the places of its
-- fields, a refusal by its number, paper and place.
use Rattle.std.specs.Prelude.{List, [], ◌∷◌, map, ℕ, ◌+◌, ◌*◌, length, drop}
use Rattle.std.specs.Borrow.{Bor}
use Rattle.papers.specs.declared.Paper.{Paper}
use Rattle.papers.specs.declared.Paper.TheVariants.{File, Sheet}
use Rattle.papers.specs.declared.Contents.{Contents}
use Rattle.papers.specs.declared.Run as declared
use Rattle.papers.specs.Program.{Program}
use Rattle.papers.specs.Outcome.{Outcome, accepted, refused}
use Rattle.papers.specs.Encoding.{rule_numbers}
use Rattle.papers.specs.Reading.{Run, first_rule}

-- Fields that were read after `before` others, by how many there are now and the place after them.
abbrev pub run_of : ℕ → Run → declared.Run
run_of before r = record { count = before + length r.contents; next = r.next }

-- The bytes of fields of one tag, each given by its numbers: 3 for the heading and 2 for each number.
unfoldable pub fields_length : List (List ℕ) → ℕ
fields_length [] = 0
fields_length (content ∷ more) = 3 + 2 * length content + fields_length more

-- The places of a program's first rule, of its first integrity rule and of its end, in its file.
abbrev pub rules_place : Program → ℕ
rules_place p = first_rule p.abducibles

abbrev pub integrity_place : Program → ℕ
integrity_place p = rules_place p + fields_length (map rule_numbers p.rules)

abbrev pub end_place : Program → ℕ
end_place p = integrity_place p + fields_length p.integrity

-- An accepted file, by its counts and places.
abbrev pub contents_of : Program → Contents
contents_of p = record {
  atoms = p.atoms;
  abducibles = length p.abducibles;
  rules = record { count = length p.rules; place = rules_place p };
  integrity = record { count = length p.integrity; place = integrity_place p };
  end = end_place p;
}

-- One of two papers.
abbrev pub paper_of : {A : Type 0} → Paper → A → A → A
paper_of File file sheet = file
paper_of Sheet file sheet = sheet

-- The rest of one of them from a place.
abbrev pub rest_from : Paper → ℕ → List ℕ → List ℕ → List ℕ
rest_from paper place file sheet = drop place (paper_of paper file sheet)

-- "The rest of that paper from the place", and "the empty part at the sheet's end where neither is refused".
abbrev pub rest_of : {A : Type 0} → Outcome A → List ℕ → List ℕ → List ℕ
rest_of (accepted p) file sheet = []
rest_of (refused r) file sheet = rest_from r.paper r.place file sheet

-- Where the part of lent bytes from a place on begins: their block of memory, and an offset into it.
abbrev pub part_start : Bor (List ℕ) → ℕ → ℕ × ℕ
part_start bytes place = (bytes.ref_ptr.0, place + bytes.ref_ptr.1)

-- The rest is that paper's own bytes and no others: where it begins.
abbrev pub rest_start : {A : Type 0} → Outcome A → Bor (List ℕ) → Bor (List ℕ) → ℕ × ℕ
rest_start (accepted p) file sheet = part_start sheet (length sheet.now)
rest_start (refused r) file sheet = part_start (paper_of r.paper file sheet) r.place
