-- Laws for walking the rules of an accepted file by fold number: where each field stands, how long it is, and what it holds.
-- Assumes nothing.
use mathlib.Core.Path.{◌≡◌, ap, ◌∙◌}
use mathlib.Core.List.{List, [], ◌∷◌, ◌++◌, map, append_assoc}
use Prim.Native.Nat.{ℕ, zero, suc, ◌+◌, ◌-◌, ◌*◌, ◌≤◌, ◌<◌}
use native.Mathlib.Omega.{arith}
use native.Mathlib.Decide.{dec_lt}
use native.Mathlib.Numerals.{add-one}
use lib.ListN.{length, get_or, take, drop, length-append, length-drop, length-map, get_or-append}
use lib.Seq.{take-suc, take-append-le, take-append-add, take_at, get_or-append-add, get_or-drop, drop-drop}
use Rattle.papers.specs.Program.{Rule, Program}
use Rattle.papers.specs.Outcome.{accepted}
use Rattle.papers.specs.Field.{number, numbers, size_of}
use Rattle.papers.specs.Reading.{read_file}
use Rattle.papers.specs.Encoding.{encode_numbers, encode_field, encode_run, rule_numbers}
use Rattle.papers.specs.Answers.{fields_length, rules_place, integrity_place, end_place}
use Rattle.papers.specs.Places.{field_numbers, fold_place}
use Rattle.papers.proofs.NumberLaws.{Bytes, numbers_encoded, length_encoded}
use Rattle.papers.proofs.Lists.{get_or_map_lt}
use Rattle.papers.proofs.Encoded.{size_encoded, after_numbers}
use Rattle.papers.proofs.Accepted.{FileTells, contents_are, rules_next, integrity_next, file_tells}
use Rattle.papers.proofs.Sizes.{length_field}

-- ---- the places

fields_append : (a b : List (List ℕ)) → fields_length (a ++ b) ≡ fields_length a + fields_length b
unfolding fields_length
fields_append [] b = omega arith
fields_append (content ∷ more) b = let ih = fields_append more b in omega arith

pub fold_count : (p : Program) → length (field_numbers p) ≡ length p.rules + length p.integrity
unfolding field_numbers
fold_count p = simp (length-append, length-map)

pub fold_first : (p : Program) → fold_place p 0 ≡ rules_place p
unfolding fold_place fields_length
fold_first p = omega arith

-- The integrity rules go on after the rules.
pub fold_later : (p : Program) (j : ℕ) → fold_place p (length p.rules + j) ≡ integrity_place p + fields_length (take j p.integrity)
unfolding fold_place field_numbers
fold_later p j = rw (← length-map p.rules rule_numbers, take-append-add, fields_append) (omega arith)

pub fold_next : (p : Program) (i : ℕ) → i < length (field_numbers p)
    → fold_place p (i + 1) ≡ fold_place p i + 3 + 2 * length (get_or (field_numbers p) i [])
unfolding fold_place fields_length
fold_next p i h = rw (add-one, take-suc (field_numbers p) i [] h, fields_append) (omega arith)

-- ---- a field of numbers at a place

-- The numbers stand there as a field of some tag, before some rest.
pub record FieldAt (place : ℕ) (bytes ns : List ℕ) : Type 0 where
  pub tag : ℕ
  pub rest : List ℕ
  pub is : drop place bytes ≡ encode_field tag (encode_numbers ns) ++ rest

module _ {place : ℕ} {bytes ns : List ℕ} (field : FieldAt place bytes ns) where
  at_size : size_of (drop place bytes) ≡ 2 * length ns
  at_size = rw (field.is, size_encoded, length_encoded)

  at_within : place + 3 + 2 * length ns ≤ length bytes
  at_within =
      let l = length-drop place bytes in
      let f = length_field field.tag (encode_numbers ns) in
      let n = length_encoded ns in
      let a = ap length field.is ∙ length-append (encode_field field.tag (encode_numbers ns)) field.rest in
      omega arith

  pub at_content : numbers (take (2 * length ns) (drop (place + 3) bytes)) ≡ ns
  unfolding encode_field
  at_content =
      let three = drop-drop 3 place bytes in
      let content = take_at (encode_numbers ns) field.rest (2 * length ns) (length_encoded ns) in
      rw (← three, field.is, content, numbers_encoded)

  -- A byte of the field.
  at_byte : (i : ℕ) → get_or bytes (place + i) 0 ≡ get_or (encode_field field.tag (encode_numbers ns) ++ field.rest) i 0
  at_byte i = rw (← get_or-drop place bytes i 0, field.is)

-- Of a rule's field: its head, then its body.
module _ {place : ℕ} {bytes : List ℕ} {r : Rule} (field : FieldAt place bytes (rule_numbers r)) where
  at_head : number (get_or bytes (place + 3) 0) (get_or bytes (place + 4) 0) ≡ r.head
  unfolding encode_field encode_numbers
  at_head = rw (at_byte field 3, at_byte field 4) (omega arith)

  at_body : numbers (take (2 * length r.body) (drop (place + 5) bytes)) ≡ r.body
  unfolding encode_field encode_numbers
  at_body =
      let five = drop-drop 5 place bytes in
      let content = take_at (encode_numbers r.body) field.rest (2 * length r.body) (length_encoded r.body) in
      rw (← five, field.is, content, numbers_encoded)

-- The field at an index of a run.
run_field : (tag place : ℕ) (bytes : List ℕ) (contents : List (List ℕ)) (rest : List ℕ) → drop place bytes ≡ encode_run tag contents ++ rest
    → (i : ℕ) → i < length contents → FieldAt (place + fields_length (take i contents)) bytes (get_or contents i [])
unfolding encode_run fields_length
run_field tag place bytes [] rest e i h = absurd (omega arith)
run_field tag place bytes (content ∷ more) rest e zero h =
    let p : place + 0 ≡ place = omega arith in
    record {
      tag = tag;
      rest = encode_run tag more ++ rest;
      is = rw p (e ∙ append_assoc (encode_field tag (encode_numbers content)) (encode_run tag more) rest);
    }
run_field tag place bytes (content ∷ more) rest e (suc i) h =
    let later = encode_run tag more ++ rest in
    let after = after_numbers tag place bytes content later (e ∙ append_assoc (encode_field tag (encode_numbers content)) (encode_run tag more) rest) in
    let ih = run_field tag (place + 3 + 2 * length content) bytes more rest after i (omega arith) in
    let p : place + 3 + 2 * length content + fields_length (take i more) ≡ place + (3 + 2 * length content + fields_length (take i more)) = omega arith in
    rw p at ih

-- ---- the fields of an accepted file

-- The numbers of a rule's field, and of an integrity rule's.
pub rule_numbers_lem : (p : Program) (i : ℕ) (d : Rule) → i < length p.rules → get_or (field_numbers p) i [] ≡ rule_numbers (get_or p.rules i d)
unfolding field_numbers
rule_numbers_lem p i d h =
    let count = length-map p.rules rule_numbers in
    get_or-append (map rule_numbers p.rules) p.integrity [] i (omega arith) ∙ get_or_map_lt rule_numbers p.rules i [] d h

pub integrity_numbers : (p : Program) (j : ℕ) → get_or (field_numbers p) (length p.rules + j) [] ≡ get_or p.integrity j []
unfolding field_numbers
integrity_numbers p j = rw (← length-map p.rules rule_numbers) (get_or-append-add (map rule_numbers p.rules) p.integrity j [])

module _ {bytes : List ℕ} {p : Program} (t : FileTells bytes p) (b : Bytes bytes) where
  rules_written_lem : drop (rules_place p) bytes ≡ encode_run 0x04 (map rule_numbers p.rules) ++ drop (integrity_place p) bytes
  rules_written_lem = rw (contents_are t, rules_next t) at (t.rules_written b)

  integrity_written_lem : drop (integrity_place p) bytes ≡ encode_run 0x05 p.integrity ++ drop (end_place p) bytes
  integrity_written_lem = rw (rules_next t, t.integrity_are, integrity_next t) at (t.integrity_written b)

  rule_field : (i : ℕ) → i < length p.rules → FieldAt (fold_place p i) bytes (get_or (field_numbers p) i [])
  unfolding fold_place field_numbers
  rule_field i h =
      let rules = map rule_numbers p.rules in
      let count = length-map p.rules rule_numbers in
      let w : i < length rules = omega arith in
      let here = run_field 0x04 (rules_place p) bytes rules _ rules_written_lem i w in
      rw (take-append-le i rules p.integrity (omega arith), get_or-append rules p.integrity [] i w) here

  integrity_field : (j : ℕ) → j < length p.integrity
      → FieldAt (fold_place p (length p.rules + j)) bytes (get_or (field_numbers p) (length p.rules + j) [])
  integrity_field j h = rw (fold_later p j, integrity_numbers p j) (run_field 0x05 (integrity_place p) bytes p.integrity _ integrity_written_lem j h)

  fold_field_lem : (i : ℕ) → i < length (field_numbers p) → FieldAt (fold_place p i) bytes (get_or (field_numbers p) i [])
  fold_field_lem i h = elim (dec_lt i (length p.rules)) [
    | yes w ↦ rule_field i w
    | no w ↦
        let count = fold_count p in
        let q : length p.rules + (i - length p.rules) ≡ i = omega arith in
        rw q at (integrity_field (i - length p.rules) (omega arith))
  ]

module _ (bytes : List ℕ) (p : Program) (b : Bytes bytes) (e : read_file bytes ≡ accepted p) where
  pub fold_size : (i : ℕ) → i < length (field_numbers p) → size_of (drop (fold_place p i) bytes) ≡ 2 * length (get_or (field_numbers p) i [])
  fold_size i h = at_size (fold_field_lem (file_tells bytes p e) b i h)

  pub fold_within : (i : ℕ) → i < length (field_numbers p) → fold_place p (i + 1) ≤ length bytes
  fold_within i h = rw (fold_next p i h) (at_within (fold_field_lem (file_tells bytes p e) b i h))

  -- The abducibles' field stands at place 9.
  pub abducibles_content : numbers (take (2 * length p.abducibles) (drop 12 bytes)) ≡ p.abducibles
  abducibles_content =
      let t = file_tells bytes p e in
      let here : FieldAt 9 bytes p.abducibles = record {
        tag = 0x03;
        rest = drop (12 + 2 * length p.abducibles) bytes;
        is = t.listed.written b;
      } in
      at_content here

  pub abducibles_within : 12 + 2 * length p.abducibles ≤ length bytes
  abducibles_within = (file_tells bytes p e).listed.within

  -- ---- by rules and integrity rules

  module _ (i : ℕ) (d : Rule) (h : i < length p.rules) where
    rule_at_lem : FieldAt (fold_place p i) bytes (rule_numbers (get_or p.rules i d))
    rule_at_lem = rw (rule_numbers_lem p i d h) at (rule_field (file_tells bytes p e) b i h)

    pub rule_head : number (get_or bytes (fold_place p i + 3) 0) (get_or bytes (fold_place p i + 4) 0) ≡ (get_or p.rules i d).head
    rule_head = at_head {r = get_or p.rules i d} rule_at_lem

    pub rule_body : numbers (take (2 * length (get_or p.rules i d).body) (drop (fold_place p i + 5) bytes))
        ≡ (get_or p.rules i d).body
    rule_body = at_body {r = get_or p.rules i d} rule_at_lem

  module _ (j : ℕ) (h : j < length p.integrity) where
    integrity_at : FieldAt (fold_place p (length p.rules + j)) bytes (get_or p.integrity j [])
    integrity_at = rw (integrity_numbers p j) at (integrity_field (file_tells bytes p e) b j h)

    pub integrity_size : size_of (drop (fold_place p (length p.rules + j)) bytes) ≡ 2 * length (get_or p.integrity j [])
    integrity_size = at_size integrity_at

    pub integrity_body : numbers (take (2 * length (get_or p.integrity j [])) (drop (fold_place p (length p.rules + j) + 3) bytes))
        ≡ get_or p.integrity j []
    integrity_body = at_content integrity_at
