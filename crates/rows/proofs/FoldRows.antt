-- The clauses of an entry, as the loop over its 09 fields meets them.
-- Assumes nothing.
use mathlib.Core.Path.{◌≡◌, refl, sym, ap, ◌∙◌}
use mathlib.Core.List.{List, [], ◌∷◌, ◌++◌, map, append_assoc}
use Prim.Native.Nat.{ℕ, ◌+◌, ◌*◌, ◌/◌, ◌≤◌, ◌<◌}
use native.Mathlib.Omega.{arith}
use native.Mathlib.Numerals.{add-one}
use lib.ListN.{length, get_or, take, drop, set, length-append, length-map, drop_of_length-le}
use lib.Seq.{drop-cons, take_all}
use Rattle.papers.specs.Program.{Program, all_rules}
use Rattle.papers.specs.Field.{numbers, size_of}
use Rattle.papers.specs.Encoding.{encode_numbers, encode_field}
use Rattle.papers.proofs.NumberLaws.{length_encoded}
use Rattle.papers.proofs.Sizes.{length_field}
use Rattle.papers.proofs.Lists.{drop_after, get_or_map_lt}
use Rattle.papers.proofs.NumbersWalked.{count_numbers}
use Rattle.dual.specs.Table.{folds_of, fold_field}
use Rattle.dual.specs.TableEncoding.{encode_fields}
use Rattle.dual.specs.Bytes.{dual_of}
use Rattle.copying.specs.Laid.{laid}
use Rattle.rows.specs.Rows.{clauses_row, clause_of, clauses_of, joined}
use Rattle.rows.specs.DualBytes.{listed_in, FoldStands, bytes_from, EntriesAt, FoldsAt}
use Rattle.copying.proofs.LaidLaws.{laid_none, laid_part, laid_after}
use Rattle.rows.proofs.RowLaws.{joined_more, row_within}
use Rattle.rows.proofs.EntryBytes.{fold_size, fold_listed, fold_stands}

-- ---- one clause

-- The part of the bytes that lists it.
pub clause_laid : (part listed before : List ℕ) (at : ℕ) → numbers part ≡ listed → at + (1 + length listed) ≤ length before
    → laid (at + 1) (numbers part) (set before at (2 * (length part / 2))) ≡ laid at (2 * length listed ∷ listed) before
clause_laid part listed before at e room =
    let c : length part / 2 ≡ length listed = sym (count_numbers part) ∙ ap length e in
    rw (c, e) (laid_after at (2 * length listed) before listed room)

-- ---- clauses as rows

unfoldable pub clause_row : List ℕ → List ℕ
clause_row clause = 2 * length clause ∷ clause

clauses_joined : (clauses : List (List ℕ)) → clauses_row clauses ≡ joined (map clause_row clauses)
unfolding clauses_row clause_row joined
clauses_joined [] = refl
clauses_joined (clause ∷ more) = ap (λ (l : List ℕ). 2 * length clause ∷ (clause ++ l)) (clauses_joined more)

module _ (p : Program) (o : ℕ) where
  abbrev pub clause_rows : List (List ℕ)
  clause_rows = map clause_row (map (clause_of p) (folds_of p o))

  rows_count : length clause_rows ≡ length (folds_of p o)
  rows_count = length-map (map (clause_of p) (folds_of p o)) clause_row ∙ length-map (folds_of p o) (clause_of p)

  row_at : (i : ℕ) → i < length (folds_of p o) → get_or clause_rows i [] ≡ clause_row (clause_of p (get_or (folds_of p o) i 0))
  row_at i h =
      let l = length-map (folds_of p o) (clause_of p) in
      get_or_map_lt clause_row (map (clause_of p) (folds_of p o)) i [] [] (omega arith) ∙ ap clause_row (get_or_map_lt (clause_of p) (folds_of p o) i [] 0 h)

-- ---- the loop

-- The clauses of the first i folds are written; the others' fields are still to come.
pub record FoldsTo (p : Program) (bytes : List ℕ) (o at : ℕ) (before : List ℕ) (i place end : ℕ) (numbers : List ℕ) : Type 0 where
  pub stand : FoldsAt p bytes o i place
  pub ends : end ≡ at + length (joined (take i (clause_rows p o)))
  pub written : numbers ≡ laid at (joined (take i (clause_rows p o))) before
  pub kept : length numbers ≡ length before

module _ (p : Program) (bytes : List ℕ) (o at : ℕ) (before : List ℕ) (room : at + length (clauses_row (clauses_of p o)) ≤ length before) where
  pub folds_none : (place : ℕ) → FoldsAt p bytes o 0 place → FoldsTo p bytes o at before 0 place at before
  unfolding joined
  folds_none place s = record { stand = s; ends = omega arith; written = sym (laid_none at before (omega arith)); kept = refl }

  module _ (i place end : ℕ) (numbers : List ℕ) (t : FoldsTo p bytes o at before i place end numbers) where
    all_rows : clauses_row (clauses_of p o) ≡ joined (clause_rows p o)
    unfolding clauses_of
    all_rows = rw t.stand.entered (clauses_joined (map (clause_of p) (folds_of p o)))

    rows_room : at + length (joined (clause_rows p o)) ≤ length before
    rows_room = let l = ap length all_rows in omega arith

    bare : encode_fields (map (fold_field (all_rules p)) []) ++ bytes_from p (o + 1) (drop (length (dual_of p)) bytes)
        ≡ bytes_from p (o + 1) (drop (length (dual_of p)) bytes)
    unfolding encode_fields
    bare = refl

    pub folds_all : length (folds_of p o) ≤ i
        → EntriesAt p bytes (o + 1) place
        × ((end ≡ at + length (clauses_row (clauses_of p o))) × (numbers ≡ laid at (clauses_row (clauses_of p o)) before))
    folds_all h =
        let e : drop i (folds_of p o) ≡ [] = drop_of_length-le (folds_of p o) h in
        let n = rows_count p o in
        let all : joined (take i (clause_rows p o)) ≡ clauses_row (clauses_of p o) =
        ap joined (take_all i (clause_rows p o) (omega arith)) ∙ sym all_rows in (
          record { valid = t.stand.valid; stands = (rw e at t.stand.stands) ∙ bare },
          (
            t.ends ∙ ap (λ (l : List ℕ). at + length l) all,
            t.written ∙ ap (λ (l : List ℕ). laid at l before) all,
          ),
        )

    module _ (here : i < length (folds_of p o)) where
      abbrev k : ℕ
      k = get_or (folds_of p o) i 0

      one : drop i (folds_of p o) ≡ k ∷ drop (i + 1) (folds_of p o)
      one = drop-cons (folds_of p o) i 0 here ∙ rw add-one

      abbrev one_bytes : List ℕ
      one_bytes = encode_field 0x09 (encode_numbers (k ∷ clause_of p k))

      abbrev rest : List ℕ
      rest = encode_fields (map (fold_field (all_rules p)) (drop (i + 1) (folds_of p o))) ++ bytes_from p (o + 1) (drop (length (dual_of p)) bytes)

      split : encode_fields (map (fold_field (all_rules p)) (k ∷ drop (i + 1) (folds_of p o))) ++ bytes_from p (o + 1) (drop (length (dual_of p)) bytes)
          ≡ encode_field 0x09 (encode_numbers (k ∷ clause_of p k)) ++ rest
      unfolding encode_fields fold_field
      split =
          append_assoc (encode_field 0x09 (encode_numbers (k ∷ clause_of p k)))
          (encode_fields (map (fold_field (all_rules p)) (drop (i + 1) (folds_of p o)))) (bytes_from p (o + 1) (drop (length (dual_of p)) bytes))

      field : drop place bytes ≡ encode_field 0x09 (encode_numbers (k ∷ clause_of p k)) ++ rest
      field = (rw one at t.stand.stands) ∙ split

      -- What the next field lists is the clause of the next fold.
      listed : listed_in (drop place bytes) ≡ clause_of p k
      listed = fold_listed k (clause_of p k) rest (drop place bytes) field

      row_here : get_or (clause_rows p o) i [] ≡ 2 * length (listed_in (drop place bytes)) ∷ listed_in (drop place bytes)
      unfolding clause_row
      row_here = row_at p o i here ∙ ap (λ (l : List ℕ). 2 * length l ∷ l) (sym listed)

      -- It stands,
      pub folds_stand : FoldStands (drop place bytes)
      folds_stand = fold_stands k (clause_of p k) rest (drop place bytes) field

      -- there is room for its clause,
      pub folds_room : end + (1 + length (listed_in (drop place bytes))) ≤ length numbers
      folds_room =
          let n = rows_count p o in
          let w = row_within (clause_rows p o) i (omega arith) in
          let l = ap length row_here in
          let r = rows_room in
          omega (arith, t.ends, t.kept)

      -- and one more is written.
      pub folds_more : (next reached : ℕ) (more : List ℕ) → next ≡ place + 3 + size_of (drop place bytes)
          → reached ≡ end + (1 + length (listed_in (drop place bytes)))
          → more ≡ laid end (2 * length (listed_in (drop place bytes)) ∷ listed_in (drop place bytes)) numbers → length more ≡ length numbers
          → FoldsTo p bytes o at before (i + 1) next reached more
      folds_more next reached more e r w same =
          let n = rows_count p o in
          let row = 2 * length (listed_in (drop place bytes)) ∷ listed_in (drop place bytes) in
          let upto : joined (take (i + 1) (clause_rows p o)) ≡ joined (take i (clause_rows p o)) ++ row =
          joined_more (clause_rows p o) i (omega arith) ∙ ap (λ (l : List ℕ). joined (take i (clause_rows p o)) ++ l) row_here in
          let room-there = folds_room in
          let a = fold_size k (clause_of p k) rest (drop place bytes) field in
          let b = length_field 0x09 (encode_numbers (k ∷ clause_of p k)) in
          let c = length_encoded (k ∷ clause_of p k) in
          let placed : next ≡ place + length one_bytes = omega arith in
          record {
            stand = record {
              valid = t.stand.valid;
              within = t.stand.within;
              entered = t.stand.entered;
              stands = ap (λ (j : ℕ). drop j bytes) placed ∙ drop_after place (length one_bytes) bytes one_bytes rest field refl;
            };
            ends = let l = ap length upto ∙ length-append (joined (take i (clause_rows p o))) row in omega (arith, t.ends);
            written =
                w
                ∙ ap (laid end row) t.written
                ∙ laid_part at (joined (take i (clause_rows p o))) before row end t.ends (omega (arith, t.kept))
                ∙ ap (λ (l : List ℕ). laid at l before) (sym upto);
            kept = same ∙ t.kept;
          }
