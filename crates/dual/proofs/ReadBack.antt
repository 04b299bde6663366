-- The bytes of a dual table, read back: at each field's place stands that field, and reading gives the fields that were written.
-- Assumes nothing.
use mathlib.Core.Path.{◌≡◌, refl, ◌∙◌}
use mathlib.Core.Bool.{false}
use mathlib.Core.List.{List, [], ◌∷◌, ◌++◌, append_assoc}
use Prim.Native.Nat.{ℕ, zero, suc, ◌+◌, ◌<◌}
use native.Mathlib.Omega.{arith}
use lib.Dec.{eqb}
use lib.ListN.{length, get_or, drop}
use lib.Seq.{drop_at, drop-append_seam}
use Rattle.papers.specs.Field.{content_of}
use Rattle.papers.specs.Encoding.{encode_numbers, encode_field}
use Rattle.papers.proofs.NumberLaws.{numbers_encoded}
use Rattle.papers.proofs.Encoded.{content_encoded}
use Rattle.papers.proofs.Sizes.{length_field}
use Rattle.dual.specs.Table.{Field, literal, fold}
use Rattle.dual.specs.TableEncoding.{tag_of, numbers_of, encode_fields, encode_dual, field_from, read_fields}

-- The bytes of one field.
abbrev encode_one : Field → List ℕ
encode_one f = encode_field (tag_of f) (encode_numbers (numbers_of f))

-- ---- where each field stands

pub encode_fields_append : (a b : List Field) → encode_fields (a ++ b) ≡ encode_fields a ++ encode_fields b
unfolding encode_fields
encode_fields_append [] b = refl
encode_fields_append (f ∷ more) b =
    rw (encode_fields_append more b, append_assoc)

pub dual_cons : (f : Field) (more : List Field) → encode_dual (f ∷ more) ≡ encode_field (tag_of f) (encode_numbers (numbers_of f)) ++ encode_dual more
unfolding encode_dual encode_fields
dual_cons f more = append_assoc (encode_one f) (encode_fields more) (encode_field 0x7F [])

module _ (before : List Field) where
  -- After some fields stand the others, up to the end.
  pub dual_after_lem : (after : List Field) → drop (length (encode_fields before)) (encode_dual (before ++ after)) ≡ encode_dual after
  unfolding encode_dual
  dual_after_lem after = rw (encode_fields_append before after, append_assoc) (drop-append_seam (encode_fields before) (encode_dual after))

  -- The first of them stands there as it was written,
  pub dual_step : (f : Field) (after : List Field)
      → drop (length (encode_fields before)) (encode_dual (before ++ f ∷ after)) ≡ encode_field (tag_of f) (encode_numbers (numbers_of f)) ++ encode_dual after
  dual_step f after = dual_after_lem (f ∷ after) ∙ dual_cons f after

  -- and after all of them the end.
  pub dual_end : drop (length (encode_fields before)) (encode_dual before) ≡ encode_field 0x7F []
  unfolding encode_dual
  dual_end = drop-append_seam (encode_fields before) (encode_field 0x7F [])

-- ---- reading the fields

-- A tag and numbers give the field that has them.
field_back : (f : Field) (more : List Field) → field_from (tag_of f) (numbers_of f) more ≡ f ∷ more
field_back (literal o folds) more = refl
field_back (fold k conjugates) more = refl

-- No field has the end's tag.
not_end : (f : Field) → eqb (tag_of f) 0x7F ≡ false
not_end (literal o folds) = refl
not_end (fold k conjugates) = refl

-- One field in front of whatever follows.
read_step : (f : Field) (room : ℕ) (rest : List ℕ)
    → read_fields (suc room) (encode_field (tag_of f) (encode_numbers (numbers_of f)) ++ rest) ≡ f ∷ read_fields room rest
unfolding read_fields
read_step f room rest =
    let bytes = encode_one f ++ rest in
    let tag : get_or bytes 0 0 ≡ tag_of f = unfold encode_field in refl in
    let content : content_of bytes ≡ encode_numbers (numbers_of f) = content_encoded (tag_of f) (encode_numbers (numbers_of f)) rest in
    let later : drop (3 + length (encode_numbers (numbers_of f))) bytes ≡ rest =
    drop_at (encode_one f) rest (3 + length (encode_numbers (numbers_of f))) (length_field (tag_of f) (encode_numbers (numbers_of f))) in
    rw (tag, content, not_end f, numbers_encoded, later, field_back f (read_fields room rest))

-- Reading gives back what was written, whatever the numbers, where there is room for the end too.
pub fields_back : (fields : List Field) (room : ℕ) → length fields < room → read_fields room (encode_dual fields) ≡ fields
fields_back fields zero h = absurd (omega arith)
fields_back [] (suc room) h = unfold read_fields encode_dual encode_fields encode_field in refl
fields_back (f ∷ more) (suc room) h =
    rw (dual_cons f more, read_step f room (encode_dual more), fields_back more room (omega arith))
