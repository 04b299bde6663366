-- How long a dual table is: its bytes are as many as the closed form says.
-- Assumes nothing.
use mathlib.Core.Path.{◌≡◌, refl}
use mathlib.Core.Bool.{Bool, true, false}
use mathlib.Core.List.{List, [], ◌∷◌, map}
use Prim.Native.Nat.{ℕ, zero, suc, ◌+◌, ◌*◌}
use native.Mathlib.Omega.{arith}
use lib.Dec.{eqb}
use lib.ListN.{length, get_or, drop, length-append, length-map}
use Rattle.literals.specs.Numbering.{judged}
use Rattle.literals.specs.BodyLiterals.{conjugate_number}
use Rattle.papers.specs.Program.{Rule, Program, all_rules, no_rule}
use Rattle.papers.specs.Encoding.{encode_numbers, encode_field}
use Rattle.papers.proofs.NumberLaws.{length_encoded}
use Rattle.papers.proofs.Sizes.{length_field}
use Rattle.papers.proofs.Lists.{at_place, past_place}
use Rattle.dual.specs.Table.{Field, literal, folds_from, folds_of, has_entry, fold_field, entry, entries_from, dual}
use Rattle.dual.specs.TableEncoding.{tag_of, numbers_of, encode_fields, encode_dual}
use Rattle.dual.specs.Length.{rule_length, rules_length, entries_length, dual_length}
use Rattle.dual.proofs.ReadBack.{encode_fields_append}

-- ---- one field

pub length_one : (f : Field) → length (encode_field (tag_of f) (encode_numbers (numbers_of f))) ≡ 3 + 2 * length (numbers_of f)
length_one f = rw (length_field, length_encoded)

pub length_fields : (f : Field) (more : List Field) → length (encode_fields (f ∷ more)) ≡ 3 + 2 * length (numbers_of f) + length (encode_fields more)
unfolding encode_fields
length_fields f more = rw (length-append, length_one)

-- ---- one entry

-- The bytes of these folds: their numbers in 08, and their fields 09.
folds_bytes : List Rule → List ℕ → ℕ
folds_bytes all folds = 2 * length folds + length (encode_fields (map (fold_field all) folds))

module _ (all : List Rule) where
  folds_step : (j : ℕ) (folds : List ℕ) → folds_bytes all (j ∷ folds) ≡ rule_length (get_or all j no_rule) + folds_bytes all folds
  unfolding folds_bytes fold_field rule_length
  folds_step j folds =
      let body = (get_or all j no_rule).body in
      let l = length_fields (fold_field all j) (map (fold_field all) folds) in
      let m = length-map body conjugate_number in
      omega arith

  -- They are counted rule by rule, from fold number j on.
  folds_length : (o j : ℕ) (rules : List Rule) → drop j all ≡ rules → folds_bytes all (folds_from j rules o) ≡ rules_length rules o
  unfolding folds_from rules_length
  folds_length o j [] e = unfold folds_bytes encode_fields in refl
  folds_length o j (r ∷ more) e =
      go (eqb r.head o) refl (folds_length o (j + 1) more (past_place all j e)) where
        go : (b : Bool) → eqb r.head o ≡ b → folds_bytes all (folds_from (j + 1) more o) ≡ rules_length more o
            → folds_bytes all (folds_from j (r ∷ more) o) ≡ rules_length (r ∷ more) o
        go true t ih = rw (t, folds_step j (folds_from (j + 1) more o), at_place all j e no_rule, ih)
        go false t ih = rw (t, ih)

-- A heading, the number, and the rules.
pub entry_length : (p : Program) (o : ℕ) → length (encode_fields (entry p o)) ≡ 5 + rules_length (all_rules p) o
unfolding entry folds_of folds_bytes
entry_length p o =
    let folds = folds_of p o in
    let l = length_fields (literal o folds) (map (fold_field (all_rules p)) folds) in
    let f = folds_length (all_rules p) o 0 (all_rules p) refl in
    omega arith

-- ---- the table

entries_length_lem : (p : Program) (count o : ℕ) → length (encode_fields (entries_from p count o)) ≡ entries_length p count o
unfolding entries_from entries_length
entries_length_lem p zero o = unfold encode_fields in refl
entries_length_lem p (suc count) o =
    go (has_entry p o) refl (entries_length_lem p count (o + 1)) where
      go : (b : Bool) → has_entry p o ≡ b → length (encode_fields (entries_from p count (o + 1))) ≡ entries_length p count (o + 1)
          → length (encode_fields (entries_from p (suc count) o)) ≡ entries_length p (suc count) o
      go true t ih = rw (t, encode_fields_append, length-append, entry_length, ih)
      go false t ih = rw (t, ih) (omega arith)

-- The closed form is the length of the bytes.
pub dual_length_lem : (p : Program) → length (encode_dual (dual p)) ≡ dual_length p
unfolding encode_dual dual dual_length
dual_length_lem p = rw (length-append, entries_length_lem p (judged p.atoms) 0, length_field)
