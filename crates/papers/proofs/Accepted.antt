-- What is accepted is valid, and is the encoding of what it was accepted as.
-- Assumes nothing.
use mathlib.Core.Path.{◌≡◌, refl, ap, ◌∙◌}
use mathlib.Core.Bool.{false}
use mathlib.Core.List.{List, [], ◌∷◌, ◌++◌, map, append-nil}
use Prim.Native.Nat.{ℕ, ◌+◌, ◌*◌}
use native.Mathlib.Omega.{arith}
use borrow.Author.Tests.{eqb-true}
use lib.Dec.{eqb}
use lib.ListN.{length, get_or, drop, length-map, drop_of_length-le}
use Rattle.papers.specs.declared.Paper.{Paper}
use Rattle.papers.specs.declared.Paper.TheVariants.{File, Sheet}
use Rattle.papers.specs.Program.{Program, Query}
use Rattle.papers.specs.Outcome.{accepted, check}
use Rattle.papers.specs.Field.{numbers, fewest, most, length_allowed, read_field}
use Rattle.papers.specs.Content.{edition_fault, atoms_fault, abducibles_fault, literals_fault}
use Rattle.papers.specs.Reading.{Run, read_edition, read_atoms, read_abducibles, first_rule, read_run, read_end, rule_of, program_of}
use Rattle.papers.specs.Reading.{read_rules, read_file, read_sheet}
use Rattle.papers.specs.Encoding.{encode_numbers, encode_field, encode_run, rule_numbers, encode_file, encode_sheet}
use Rattle.papers.specs.Valid.{ValidQuery, Valid}
use Rattle.papers.specs.Answers.{integrity_place, end_place}
use Rattle.papers.proofs.Checks.{checked, passed, through}
use Rattle.papers.proofs.FieldLaws.{Whole, field_tells, allowed_even}
use Rattle.papers.proofs.NumberLaws.{Bytes, length_numbers}
use Rattle.papers.proofs.RunLaws.{run_reads, RunTells, reads_tell}
use Rattle.papers.proofs.ContentLaws.{edition_tells, atoms_tell, abducibles_tell, literals_tell, length_tells, bodies_tell, rules_tell, numbers_back}
use Rattle.papers.proofs.Written.{field_written, Holds, field_holds, run_written}

-- ---- the single fields

one_element : (l : List ℕ) → length l ≡ 1 → l ≡ get_or l 0 0 ∷ []
one_element [] e = absurd (omega arith)
one_element (x ∷ []) e = refl
one_element (x ∷ y ∷ more) e = absurd (omega arith)

no_element : (l : List ℕ) → length l ≡ 0 → l ≡ []
no_element [] e = refl
no_element (x ∷ more) e = absurd (omega arith)

pub edition_read : (bytes : List ℕ) (value : ℕ) → read_edition bytes ≡ accepted value → Whole 0x01 false 0 bytes (1 ∷ [])
unfolding read_edition length_allowed
edition_read bytes value e =
    let f = through (read_field File 0x01 false 0 bytes) _ e in
    let field = field_tells File 0x01 false 0 bytes _ f.first in
    let one : get_or f.value 0 0 ≡ 1 = edition_tells _ (passed (edition_fault (get_or f.value 0 0)) File 0 _ f.after).0 in
    let single : f.value ≡ get_or f.value 0 0 ∷ [] = one_element _ (eqb-true _ _ field.allowed) in
    let is : f.value ≡ 1 ∷ [] = cc in
    rw is at field

pub atoms_read : (bytes : List ℕ) (n : ℕ) → read_atoms bytes ≡ accepted n → Holds 0x02 4 bytes (n ∷ []) × (atoms_fault n ≡ 0)
unfolding read_atoms fewest most
atoms_read bytes n e =
    let f = through (read_field File 0x02 false 4 bytes) _ e in
    let holds = field_holds (omega arith) (field_tells File 0x02 false 4 bytes _ f.first) in
    let p = passed (atoms_fault (get_or (numbers f.value) 0 0)) File 4 _ f.after in
    let q : get_or (numbers f.value) 0 0 ≡ n = cc in
    let l = length_tells 0x02 _ (omega arith) holds.allowed in
    let single = one_element (numbers f.value) (omega arith) in
    let is : numbers f.value ≡ n ∷ [] = cc in
    (rw is at holds, rw q at p.0)

pub abducibles_read : (n : ℕ) (bytes l : List ℕ) → read_abducibles n bytes ≡ accepted l → Holds 0x03 9 bytes l × (abducibles_fault n 0 l ≡ 0)
unfolding read_abducibles
abducibles_read n bytes l e =
    let f = through (read_field File 0x03 false 9 bytes) _ e in
    let holds = field_holds (omega arith) (field_tells File 0x03 false 9 bytes _ f.first) in
    let p = passed (abducibles_fault n 0 (numbers f.value)) File 9 _ f.after in
    let q : numbers f.value ≡ l = cc in
    (rw q at holds, rw q at p.0)

-- The end: no content, and nothing after it.
pub record Ends (place : ℕ) (bytes : List ℕ) : Type 0 where
  pub size : length bytes ≡ place + 3
  pub written : Bytes bytes → drop place bytes ≡ encode_field 0x7F []

pub end_read : (paper : Paper) (place : ℕ) (bytes : List ℕ) (size : ℕ) → read_end paper place bytes ≡ accepted size → Ends place bytes
unfolding read_end fewest most encode_numbers
end_read paper place bytes size e =
    let f = through (read_field paper 0x7F false place bytes) _ e in
    let holds = field_holds (omega arith) (field_tells paper 0x7F false place bytes _ f.first) in
    let p = passed (check (eqb (length bytes) (place + 3)) 10 0) paper (place + 3) _ f.after in
    let l = length_tells 0x7F _ (omega arith) holds.allowed in
    let empty : numbers f.value ≡ [] = no_element _ (omega arith) in
    let here : Holds 0x7F place bytes [] = rw empty at holds in
    let size : length bytes ≡ place + 3 = eqb-true _ _ (checked _ 9 0 p.0).0 in
    record {
      size = size;
      written = λ b. here.written b ∙ rw (drop_of_length-le bytes {i = place + 3 + 0} (omega arith)) (append-nil (encode_field 0x7F []));
    }

-- ---- the file

-- What an accepted file tells, field by field. The runs hold the rules' numbers as they were read.
pub record FileTells (bytes : List ℕ) (p : Program) : Type 0 where
  pub edition : Whole 0x01 false 0 bytes (1 ∷ [])
  pub count : Holds 0x02 4 bytes (p.atoms ∷ [])
  pub count_fault : atoms_fault p.atoms ≡ 0
  pub listed : Holds 0x03 9 bytes p.abducibles
  pub listed_fault : abducibles_fault p.atoms 0 p.abducibles ≡ 0
  pub rule_run : Run
  pub rules : RunTells 0x04 p.atoms p.abducibles 1024 (first_rule p.abducibles) bytes rule_run
  pub rules_are : map rule_of rule_run.contents ≡ p.rules
  pub rules_written : Bytes bytes → drop (first_rule p.abducibles) bytes ≡ encode_run 0x04 rule_run.contents ++ drop rule_run.next bytes
  pub integrity_run : Run
  pub integrity : RunTells 0x05 p.atoms p.abducibles 256 rule_run.next bytes integrity_run
  pub integrity_are : integrity_run.contents ≡ p.integrity
  pub integrity_written : Bytes bytes → drop rule_run.next bytes ≡ encode_run 0x05 integrity_run.contents ++ drop integrity_run.next bytes
  pub end : Ends integrity_run.next bytes

module _ {bytes : List ℕ} {p : Program} (t : FileTells bytes p) where
  -- The runs, by the program.
  pub contents_are : t.rule_run.contents ≡ map rule_numbers p.rules
  contents_are = rw (← t.rules_are, numbers_back p.atoms p.abducibles t.rules.bodies)

  pub rules_next : t.rule_run.next ≡ integrity_place p
  rules_next = rw contents_are at t.rules.next_is

  pub integrity_next : t.integrity_run.next ≡ end_place p
  integrity_next = rw (rules_next, t.integrity_are) at t.integrity.next_is

-- Of the six readings, each accepted.
parts_tell : (bytes : List ℕ) {edition n : ℕ} {abducibles : List ℕ} {rules integrity : Run} {end : ℕ} → read_edition bytes ≡ accepted edition
    → read_atoms bytes ≡ accepted n → read_abducibles n bytes ≡ accepted abducibles
    → read_run 0x04 n abducibles 1024 (first_rule abducibles) bytes ≡ accepted rules
    → read_run 0x05 n abducibles 256 rules.next bytes ≡ accepted integrity → read_end File integrity.next bytes ≡ accepted end
    → FileTells bytes (program_of n abducibles rules integrity)
parts_tell bytes {edition} {n} {abducibles} {rules} {integrity} {end} e1 e2 e3 e4 e5 e6 =
    let count = atoms_read bytes n e2 in
    let listed = abducibles_read n bytes abducibles e3 in
    let read4 = run_reads 0x04 n abducibles bytes 1024 (first_rule abducibles) rules e4 in
    let read5 = run_reads 0x05 n abducibles bytes 256 rules.next integrity e5 in
    let tells4 = reads_tell (omega arith) listed.0.within read4 in
    record {
      edition = edition_read bytes edition e1;
      count = count.0;
      count_fault = count.1;
      listed = listed.0;
      listed_fault = listed.1;
      rule_run = rules;
      rules = tells4;
      rules_are = refl;
      rules_written = λ b. run_written (omega arith) b read4;
      integrity_run = integrity;
      integrity = reads_tell (omega arith) tells4.within read5;
      integrity_are = refl;
      integrity_written = λ b. run_written (omega arith) b read5;
      end = end_read File integrity.next bytes end e6;
    }

pub file_tells : (bytes : List ℕ) (p : Program) → read_file bytes ≡ accepted p → FileTells bytes p
unfolding read_file read_rules
file_tells bytes p e =
    let one = through (read_edition bytes) _ e in
    let two = through (read_atoms bytes) _ one.after in
    let three = through (read_abducibles two.value bytes) _ two.after in
    let four = through (read_run 0x04 two.value three.value 1024 (first_rule three.value) bytes) _ three.after in
    let five = through (read_run 0x05 two.value three.value 256 four.value.next bytes) _ four.after in
    let six = through (read_end File five.value.next bytes) _ five.after in
    let q : program_of two.value three.value four.value five.value ≡ p = cc in
    rw q at (parts_tell bytes {end = six.value} one.first two.first three.first four.first five.first six.first)

pub accepted_valid : (bytes : List ℕ) (p : Program) → read_file bytes ≡ accepted p → Valid p
unfolding fewest most
accepted_valid bytes p e =
    let t = file_tells bytes p e in
    let a = atoms_tell p.atoms t.count_fault in
    let k = length_tells 0x03 (length p.abducibles) (omega arith) t.listed.allowed in
    let b = abducibles_tell p.atoms 0 p.abducibles t.listed_fault in
    let rules = ap length t.rules_are in
    let integrity = ap length t.integrity_are in
    let count = length-map t.rule_run.contents rule_of in
    record {
      some_atoms = a.0;
      few_atoms = a.1;
      few_abducibles = k.1;
      abducibles_listed = b.0;
      abducibles_rising = b.1;
      few_rules = omega arith;
      rules = rw t.rules_are at (rules_tell p.atoms p.abducibles t.rules.bodies);
      few_integrity = omega arith;
      integrity = rw t.integrity_are at (bodies_tell p.atoms p.abducibles t.integrity.bodies);
    }

pub accepted_encoded : (bytes : List ℕ) (p : Program) → Bytes bytes → read_file bytes ≡ accepted p → bytes ≡ encode_file p
unfolding encode_file
accepted_encoded bytes p b e =
    let t = file_tells bytes p e in
    rw (
      field_written t.edition b,
      t.count.written b,
      t.listed.written b,
      t.rules_written b,
      t.integrity_written b,
      t.end.written b,
      contents_are t,
      t.integrity_are,
    )

-- ---- the sheet

pub record SheetTells (n : ℕ) (bytes : List ℕ) (q : Query) : Type 0 where
  pub query : Holds 0x06 0 bytes q
  pub fault : literals_fault false n q ≡ 0
  pub end : Ends (3 + 2 * length q) bytes

pub sheet_tells : (n : ℕ) (bytes : List ℕ) (q : Query) → read_sheet n bytes ≡ accepted q → SheetTells n bytes q
unfolding read_sheet
sheet_tells n bytes q e =
    let f = through (read_field Sheet 0x06 false 0 bytes) _ e in
    let field = field_tells Sheet 0x06 false 0 bytes f.value f.first in
    let p = passed (literals_fault false n (numbers f.value)) Sheet 0 _ f.after in
    let r = through (read_end Sheet (3 + length f.value) bytes) _ p.1 in
    let is : numbers f.value ≡ q = cc in
    let l : 2 * length (numbers f.value) ≡ length f.value = length_numbers f.value (allowed_even 0x06 _ (omega arith) field.allowed) in
    let whole : SheetTells n bytes (numbers f.value) = record {
      query = field_holds (omega arith) field;
      fault = p.0;
      end = rw l (end_read Sheet (3 + length f.value) bytes r.value r.first);
    } in
    rw is at whole

pub sheet_accepted_valid : (n : ℕ) (bytes : List ℕ) (q : Query) → read_sheet n bytes ≡ accepted q → ValidQuery n q
unfolding fewest most
sheet_accepted_valid n bytes q e =
    let t = sheet_tells n bytes q e in
    record {
      few = (length_tells 0x06 (length q) (omega arith) t.query.allowed).1;
      listed = literals_tell n q t.fault;
    }

pub sheet_accepted_encoded : (n : ℕ) (bytes : List ℕ) (q : Query) → Bytes bytes → read_sheet n bytes ≡ accepted q → bytes ≡ encode_sheet q
unfolding encode_sheet
sheet_accepted_encoded n bytes q b e =
    let t = sheet_tells n bytes q e in
    rw (t.query.written b, t.end.written b)
