-- How long the encodings are, document 01's longest papers, and that two papers that say the same are the same.
-- Assumes nothing.
use mathlib.Core.Path.{◌≡◌, refl, sym, ◌∙◌}
use mathlib.Core.List.{List, [], ◌∷◌, map}
use Prim.Native.Nat.{ℕ, ◌+◌, ◌*◌, ◌≤◌}
use native.Mathlib.Omega.{arith}
use lib.ListN.{length, length-append, length-map}
use Rattle.papers.specs.Program.{Rule, Program, Query}
use Rattle.papers.specs.Outcome.{accepted}
use Rattle.papers.specs.Reading.{read_file, read_sheet}
use Rattle.papers.specs.Encoding.{encode_field, encode_run, rule_numbers, encode_file, encode_sheet}
use Rattle.papers.specs.Valid.{All, none, each, ValidQuery, ValidBody, ValidRule, Valid}
use Rattle.papers.specs.Answers.{fields_length, end_place}
use Rattle.papers.proofs.NumberLaws.{Bytes, length_encoded}
use Rattle.papers.proofs.Lists.{all_map, all_each}
use Rattle.papers.proofs.Accepted.{accepted_valid, accepted_encoded, sheet_accepted_valid, sheet_accepted_encoded}

pub length_field : (tag : ℕ) (content : List ℕ) → length (encode_field tag content) ≡ 3 + length content
unfolding encode_field
length_field tag content = omega arith

pub length_run : (tag : ℕ) (contents : List (List ℕ)) → length (encode_run tag contents) ≡ fields_length contents
unfolding encode_run fields_length
length_run tag [] = refl
length_run tag (content ∷ more) =
    simp (length-append, length_field, length_encoded) (let ih = length_run tag more in omega arith)

pub length_file : (p : Program) → length (encode_file p) ≡ end_place p + 3
unfolding encode_file
length_file p = simp (length-append, length_field, length_encoded, length_run) (omega arith)

pub length_sheet : (query : Query) → length (encode_sheet query) ≡ 2 * length query + 6
unfolding encode_sheet
length_sheet query = simp (length-append, length_field, length_encoded) (omega arith)

-- ---- bounds

-- A list with at most so many elements.
record Short {A : Type 0} (most : ℕ) (l : List A) : Type 0 where
  short : length l ≤ most

fields_bound : (most : ℕ) (contents : List (List ℕ)) → All (Short most) contents → fields_length contents ≤ (3 + 2 * most) * length contents
unfolding fields_length
fields_bound most [] none = omega arith
fields_bound most (content ∷ more) (each h rest) = let ih = fields_bound most more rest in omega arith

rules_short : (n : ℕ) (abducibles : List ℕ) (r : Rule) → ValidRule n abducibles r → Short 17 (rule_numbers r)
rules_short n abducibles r v = record { short = omega arith }

bodies_short : (n : ℕ) (body : List ℕ) → ValidBody n body → Short 16 body
bodies_short n body v = record { short = v.few }

-- 4 bytes for 01, 5 for 02, 35 for 03, 1,024 times 37 for 04, 256 times 35 for 05, and 3 for 7F.
pub file_bound : (p : Program) → Valid p → length (encode_file p) ≤ 46895
file_bound p v =
    let rules = fields_bound 17 (map rule_numbers p.rules) (all_map rule_numbers (rules_short p.atoms p.abducibles) v.rules) in
    let integrity = fields_bound 16 p.integrity (all_each (bodies_short p.atoms) v.integrity) in
    let count = length-map p.rules rule_numbers in
    rw length_file (omega arith)

-- 35 bytes for 06 and 3 for 7F.
pub sheet_bound : (n : ℕ) (query : Query) → ValidQuery n query → length (encode_sheet query) ≤ 38
sheet_bound n query v = rw length_sheet (omega arith)

-- ---- accepted papers

module _ (bytes : List ℕ) (p : Program) where
  pub accepted_bound : Bytes bytes → read_file bytes ≡ accepted p → length bytes ≤ 46895
  accepted_bound b e = rw (accepted_encoded bytes p b e) (file_bound p (accepted_valid bytes p e))

module _ (n : ℕ) (bytes : List ℕ) (q : Query) where
  pub sheet_accepted_bound : Bytes bytes → read_sheet n bytes ≡ accepted q → length bytes ≤ 38
  sheet_accepted_bound b e = rw (sheet_accepted_encoded n bytes q b e) (sheet_bound n q (sheet_accepted_valid n bytes q e))

-- Two files of bytes that are accepted as the same program are the same, and so are two sheets.
pub same_program : (a b : List ℕ) (p : Program) → Bytes a → Bytes b → read_file a ≡ accepted p → read_file b ≡ accepted p → a ≡ b
same_program a b p ha hb ea eb = accepted_encoded a p ha ea ∙ sym (accepted_encoded b p hb eb)

pub same_query : (n : ℕ) (a b : List ℕ) (q : Query) → Bytes a → Bytes b → read_sheet n a ≡ accepted q → read_sheet n b ≡ accepted q → a ≡ b
same_query n a b q ha hb ea eb = sheet_accepted_encoded n a q ha ea ∙ sym (sheet_accepted_encoded n b q hb eb)
