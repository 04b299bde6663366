-- The readers, field by field, left to right.
use Rattle.std.specs.Prelude.{true, false, cond, List, [], ◌∷◌, map, ℕ, zero, suc, ◌+◌, ◌*◌, eqb, length, get_or, drop}
use Rattle.papers.specs.declared.Paper.{Paper}
use Rattle.papers.specs.declared.Paper.TheVariants.{File, Sheet}
use Rattle.papers.specs.Program.{Rule, Program, Query}
use Rattle.papers.specs.Outcome.{Outcome, accepted, refused, check, passing, and_then}
use Rattle.papers.specs.Field.{numbers, read_field}
use Rattle.papers.specs.Content.{edition_fault, atoms_fault, abducibles_fault, literals_fault, body_fault}

-- "01 edition (length 1, value 1)", at the file's start.
unfoldable pub read_edition : List ℕ → Outcome ℕ
read_edition bytes =
    and_then (read_field File 0x01 false 0 bytes) (λ content.
    passing (edition_fault (get_or content 0 0)) File 0 (accepted (get_or content 0 0)))

-- "02 atom count (length 2, 1 to 256)", after the edition's 4 bytes.
unfoldable pub read_atoms : List ℕ → Outcome ℕ
read_atoms bytes =
    and_then (read_field File 0x02 false 4 bytes) (λ content.
    passing (atoms_fault (get_or (numbers content) 0 0)) File 4 (accepted (get_or (numbers content) 0 0)))

-- "03 abducible atoms (length 2k, k 0 to 16, strictly rising)", after the atom count's 5 bytes.
unfoldable pub read_abducibles : ℕ → List ℕ → Outcome (List ℕ)
read_abducibles n bytes =
    and_then (read_field File 0x03 false 9 bytes) (λ content.
    passing (abducibles_fault n 0 (numbers content)) File 9 (accepted (numbers content)))

-- The place of the first field after the abducibles.
abbrev pub first_rule : List ℕ → ℕ
first_rule abducibles = 12 + 2 * length abducibles

-- Fields of one tag, one after the other: the numbers of each, and the place after the last.
pub record Run : Type 0 where
  pub contents : List (List ℕ)
  pub next : ℕ

abbrev pub run_from : List (List ℕ) → ℕ → Run
run_from contents next = record { contents = contents; next = next }

abbrev pub one_more : List ℕ → Run → Run
one_more content run = run_from (content ∷ run.contents) run.next

-- "04 rule, 0 to 1,024 times", "05 integrity rule, 0 to 256 times": fields of the tag as long as the next tag is that one. A
-- field of another tag is left to what may follow. `room` is how many more there may be: at 0 the next is refused by 9.
unfoldable pub read_run : ℕ → ℕ → List ℕ → ℕ → ℕ → List ℕ → Outcome Run
read_run tag n abducibles zero place bytes =
    cond (eqb (get_or (drop place bytes) 0 0) tag)
    (and_then (read_field File tag true place bytes) (λ content. accepted (run_from [] place)))
    (accepted (run_from [] place))
read_run tag n abducibles (suc room) place bytes =
    cond (eqb (get_or (drop place bytes) 0 0) tag)
    (and_then (read_field File tag false place bytes) (λ content.
    passing (body_fault tag n abducibles (numbers content)) File place
    (and_then (read_run tag n abducibles room (place + 3 + length content) bytes) (λ run.
    accepted (one_more (numbers content) run)))))
    (accepted (run_from [] place))

-- "7F end (length 0)", and after it nothing (10, whose place is the byte after 7F). The paper's length is answered.
unfoldable pub read_end : Paper → ℕ → List ℕ → Outcome ℕ
read_end paper place bytes =
    and_then (read_field paper 0x7F false place bytes) (λ content.
    passing (check (eqb (length bytes) (place + 3)) 10 0) paper (place + 3) (accepted (place + 3)))

-- A rule's numbers as a rule: its head, then its body. The length test lets none without a head through.
unfoldable pub rule_of : List ℕ → Rule
rule_of [] = record { head = 0; body = [] }
rule_of (head ∷ body) = record { head = head; body = body }

abbrev pub program_of : ℕ → List ℕ → Run → Run → Program
program_of n abducibles rules integrity = record {
  atoms = n;
  abducibles = abducibles;
  rules = map rule_of rules.contents;
  integrity = integrity.contents;
}

-- The rules, the integrity rules and the end.
unfoldable pub read_rules : ℕ → List ℕ → List ℕ → Outcome Program
read_rules n abducibles bytes =
    and_then (read_run 0x04 n abducibles 1024 (first_rule abducibles) bytes) (λ rules.
    and_then (read_run 0x05 n abducibles 256 rules.next bytes) (λ integrity.
    and_then (read_end File integrity.next bytes) (λ end.
    accepted (program_of n abducibles rules integrity))))

-- "File, in this order: 01, 02, 03, 04 .., 05 .., 7F."
unfoldable pub read_file : List ℕ → Outcome Program
read_file bytes =
    and_then (read_edition bytes) (λ edition.
    and_then (read_atoms bytes) (λ n.
    and_then (read_abducibles n bytes) (λ abducibles.
    read_rules n abducibles bytes)))

-- The program of an accepted file. Of a refused one it is of no use: one atom and nothing said.
unfoldable pub program_in : List ℕ → Program
program_in bytes = accepted_in (read_file bytes) where
  accepted_in : Outcome Program → Program
  accepted_in (accepted p) = p
  accepted_in (refused r) = record { atoms = 1; abducibles = []; rules = []; integrity = [] }

-- "Sheet: 06 query (0 to 16 literals), then 7F."
unfoldable pub read_sheet : ℕ → List ℕ → Outcome Query
read_sheet n bytes =
    and_then (read_field Sheet 0x06 false 0 bytes) (λ content.
    passing (literals_fault false n (numbers content)) Sheet 0
    (and_then (read_end Sheet (3 + length content) bytes) (λ end.
    accepted (numbers content))))

pub record Papers : Type 0 where
  pub program : Program
  pub query : Query

-- "The file comes first, then the sheet."
unfoldable pub read_papers : List ℕ → List ℕ → Outcome Papers
read_papers file sheet =
    and_then (read_file file) (λ program.
    and_then (read_sheet program.atoms sheet) (λ query.
    accepted (record { program = program; query = query })))
