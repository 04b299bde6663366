-- An objective literal with an entry in the dual's bytes, or without one: its row, and what stands after it.
-- Assumes nothing.
use mathlib.Core.Path.{◌≡◌, refl, sym, ap, ◌∙◌}
use mathlib.Core.Bool.{true, false}
use mathlib.Core.List.{List, [], ◌∷◌, ◌++◌, map}
use Prim.Native.Nat.{ℕ, ◌+◌, ◌*◌, ◌≤◌, ◌<◌}
use native.Mathlib.Omega.{arith}
use lib.ListN.{length, drop, set, length-append, length-drop}
use Rattle.std.proofs.Common.{Some}
use Rattle.literals.specs.Numbering.{judged}
use Rattle.papers.specs.Program.{Program, all_rules}
use Rattle.papers.specs.Field.{size_of}
use Rattle.papers.specs.Encoding.{encode_numbers, encode_field}
use Rattle.papers.proofs.NumberLaws.{length_encoded}
use Rattle.papers.proofs.Encoded.{size_encoded}
use Rattle.papers.proofs.Sizes.{length_field}
use Rattle.papers.proofs.Lists.{drop_after}
use Rattle.dual.specs.Table.{folds_of, has_entry, fold_field}
use Rattle.dual.specs.TableEncoding.{encode_fields}
use Rattle.dual.specs.Bytes.{dual_of}
use Rattle.copying.specs.Laid.{laid}
use Rattle.rows.specs.Rows.{clauses_row, clauses_of, entry_row}
use Rattle.rows.specs.DualBytes.{literal_in, FieldStands, bytes_from, EntriesAt, FoldsAt}
use Rattle.copying.proofs.LaidLaws.{laid_none, laid_one, laid_row_late}
use Rattle.rows.proofs.RowLaws.{entry_row_length}
use Rattle.rows.proofs.EntryBytes.{opens_stands, bytes_open, bytes_none, bytes_entry, entry_told, none_told}

module _ (p : Program) (bytes : List ℕ) (o place : ℕ) (s : EntriesAt p bytes o place) (within : o < judged p.atoms) where
  abbrev after : List ℕ
  after = drop (length (dual_of p)) bytes

  pub any_stands : FieldStands (drop place bytes)
  any_stands = rw s.stands (opens_stands (bytes_open p after o))

  -- Where another field stands, there is no entry, and what stands there is the next one's.
  module _ (n : literal_in (drop place bytes) ≡ Some o → ⊥) where
    none : has_entry p o ≡ false
    none = none_told p after o within (rw s.stands at n)

    pub any_next : EntriesAt p bytes (o + 1) place
    any_next = record { valid = s.valid; stands = s.stands ∙ bytes_none p after o within none }

    row_bare : entry_row p o ≡ o ∷ 1 ∷ 0 ∷ []
    unfolding entry_row clauses_of clauses_row
    row_bare = rw none refl

    pub bare_length : length (entry_row p o) ≡ 3
    bare_length = ap length row_bare

    pub bare_laid : (at : ℕ) (before : List ℕ) → at + length (entry_row p o) ≤ length before
        → set (set (set before at o) (at + 1) 1) (at + 2) 0 ≡ laid at (entry_row p o) before
    bare_laid at before room =
        let l = bare_length in
        ap (λ (x : List ℕ). set (set (set x at o) (at + 1) 1) (at + 2) 0) (sym (laid_none at before (omega arith)))
        ∙ ap (λ (x : List ℕ). set (set x (at + 1) 1) (at + 2) 0) (laid_one at [] before at o (omega arith) (omega arith))
        ∙ ap (λ (x : List ℕ). set x (at + 2) 0) (laid_one at (o ∷ []) before (at + 1) 1 (omega arith) (omega arith))
        ∙ laid_one at (o ∷ 1 ∷ []) before (at + 2) 0 (omega arith) (omega arith)
        ∙ ap (λ (x : List ℕ). laid at x before) (sym row_bare)

  -- Where its own stands, its folds' fields follow.
  module _ (is : literal_in (drop place bytes) ≡ Some o) where
    entered : has_entry p o ≡ true
    entered = entry_told p after o within (rw s.stands at is)

    abbrev heading : List ℕ
    heading = encode_field 0x08 (encode_numbers (o ∷ folds_of p o))

    abbrev rest : List ℕ
    rest = encode_fields (map (fold_field (all_rules p)) (folds_of p o)) ++ bytes_from p (o + 1) after

    field : drop place bytes ≡ heading ++ rest
    field = s.stands ∙ bytes_entry p after o within entered

    -- The 08 field says how many folds there are.
    pub any_size : size_of (drop place bytes) ≡ 2 + 2 * length (folds_of p o)
    any_size =
        let e = ap size_of field ∙ size_encoded 0x08 (encode_numbers (o ∷ folds_of p o)) rest in
        let l = length_encoded (o ∷ folds_of p o) in
        omega arith

    heading_length : length heading ≡ 5 + 2 * length (folds_of p o)
    heading_length = let f = length_field 0x08 (encode_numbers (o ∷ folds_of p o)) in let l = length_encoded (o ∷ folds_of p o) in omega arith

    pub any_whole : place + 5 + 2 * length (folds_of p o) ≤ length bytes
    any_whole =
        let h = heading_length in
        let l = ap length field ∙ length-append heading rest in
        let d = length-drop place bytes in
        omega arith

    pub any_folds : (next : ℕ) → next ≡ place + 3 + size_of (drop place bytes) → FoldsAt p bytes o 0 next
    any_folds next q = record {
      valid = s.valid;
      within = within;
      entered = entered;
      stands =
          let z = any_size in
          let h = heading_length in
          let placed : next ≡ place + length heading = omega arith in
          ap (λ (j : ℕ). drop j bytes) placed ∙ drop_after place (length heading) bytes heading rest field refl;
    }

-- The row of an entry, whose size is written after its clauses.
pub entry_laid : (p : Program) (o at size : ℕ) (before written : List ℕ) → size ≡ length (clauses_row (clauses_of p o))
    → at + length (entry_row p o) ≤ length before → written ≡ laid (at + 2) (clauses_row (clauses_of p o)) (set before at o)
    → set written (at + 1) size ≡ laid at (entry_row p o) before
unfolding entry_row
entry_laid p o at size before written e room w =
    let l = entry_row_length p o in
    rw (w, e) (laid_row_late at o before (clauses_row (clauses_of p o)) (omega arith) (length (clauses_row (clauses_of p o))))
