-- What stands in the bytes of a dual: which objective literal comes first, its entry's fields, and what each 09 field lists.
-- Assumes nothing.
use mathlib.Core.Path.{◌≡◌, refl, sym, ap, ◌∙◌}
use mathlib.Core.Bool.{Bool, true, false, cond}
use mathlib.Core.List.{List, [], ◌∷◌, ◌++◌, map, append_assoc}
use Prim.Native.Nat.{ℕ, zero, suc, ◌+◌, ◌-◌, ◌*◌, ◌/◌, ◌%◌, ◌≤◌, ◌<◌}
use native.Mathlib.Omega.{arith}
use borrow.Author.Tests.{eq-eqb, ne_eqb}
use lib.ListN.{length, get_or, take, drop, length-append, take-append-drop}
use lib.Seq.{take_at, drop-drop, get_or-drop, take-append_seam}
use Rattle.std.proofs.Common.{Some, None}
use Rattle.literals.specs.Numbering.{judged}
use Rattle.papers.specs.Program.{Program, all_rules}
use Rattle.papers.specs.Field.{number_in, numbers, size_of, content_of}
use Rattle.papers.specs.Encoding.{encode_numbers, encode_field}
use Rattle.papers.specs.Valid.{Valid}
use Rattle.papers.proofs.NumberLaws.{numbers_encoded, length_encoded}
use Rattle.papers.proofs.Encoded.{size_encoded}
use Rattle.papers.proofs.Sizes.{length_field}
use Rattle.papers.proofs.Lists.{drop_take}
use Rattle.papers.proofs.FieldTests.{tag_there}
use Rattle.dual.specs.Table.{folds_of, has_entry, fold_field, entry, entry_if_any, entries_from, dual}
use Rattle.dual.specs.TableEncoding.{encode_fields, encode_dual}
use Rattle.dual.specs.Bytes.{dual_of, filled}
use Rattle.dual.proofs.ReadBack.{encode_fields_append}
use Rattle.dual.proofs.AllEntries.{entry_is}
use Rattle.rows.specs.DualBytes.{listed_in, FoldStands, literal_in, FieldStands, bytes_from, DualStarts, EntriesAt}

-- ---- one 09 field

module _ (k : ℕ) (listed rest bytes : List ℕ) (e : bytes ≡ encode_field 0x09 (encode_numbers (k ∷ listed)) ++ rest) where
  pub fold_size : size_of bytes ≡ 2 + 2 * length listed
  fold_size =
      ap size_of e
      ∙ size_encoded 0x09 (encode_numbers (k ∷ listed)) rest
      ∙ length_encoded (k ∷ listed)
      ∙ (let s : 2 * suc (length listed) ≡ 2 + 2 * length listed = omega arith in s)

  pub fold_listed : listed_in bytes ≡ listed
  unfolding listed_in content_of
  fold_listed =
      let content = encode_numbers (k ∷ listed) in
      let whole : take (length content) (drop 3 (encode_field 0x09 content ++ rest)) ≡ content =
      unfold encode_field in take_at content rest (length content) refl in
      let later : numbers (drop 2 content) ≡ listed = unfold encode_numbers in numbers_encoded listed in
      rw (e, size_encoded 0x09 content rest, whole) later

  pub fold_stands : FoldStands bytes
  fold_stands =
      let s = fold_size in
      let l = ap length e ∙ length-append (encode_field 0x09 (encode_numbers (k ∷ listed))) rest in
      let f = length_field 0x09 (encode_numbers (k ∷ listed)) in
      let g = length_encoded (k ∷ listed) in
      record { numbered = omega arith; whole = omega arith }

-- What it lists stands after its fold number.
pub listed_part : (bytes : List ℕ) (place start next : ℕ) → start ≡ place + 5 → next ≡ place + 3 + size_of (drop place bytes)
    → numbers (take (next - start) (drop start bytes)) ≡ listed_in (drop place bytes)
unfolding listed_in content_of
listed_part bytes place start next s e =
    let size = size_of (drop place bytes) in
    let n : next - start ≡ size - 2 = omega arith in
    let d : drop start bytes ≡ drop 2 (drop 3 (drop place bytes)) =
    ap (λ (k : ℕ). drop k bytes) (let q : start ≡ place + 3 + 2 = omega arith in q)
    ∙ sym (drop-drop 2 (place + 3) bytes)
    ∙ ap (drop 2) (sym (drop-drop 3 place bytes)) in
    ap numbers (ap (λ (k : ℕ). take k (drop start bytes)) n ∙ ap (take (size - 2)) d ∙ sym (drop_take 2 size (drop 3 (drop place bytes))))

-- ---- the first field

module _ (bytes : List ℕ) (place : ℕ) where
  -- An 08 field has its number after its heading; another field has none.
  pub literal_is : get_or bytes place 0 ≡ 0x08 → literal_in (drop place bytes) ≡ Some (number_in bytes (place + 3))
  unfolding literal_in
  literal_is e =
      let f : place + 4 ≡ place + 3 + 1 = omega arith in
      rw (eq-eqb (get_or (drop place bytes) 0 0) 0x08 (tag_there place bytes ∙ e), get_or-drop place bytes 3 0, get_or-drop place bytes 4 0, f)

  pub literal_none : (get_or bytes place 0 ≡ 0x08 → ⊥) → literal_in (drop place bytes) ≡ None
  unfolding literal_in
  literal_none n = rw (ne_eqb (get_or (drop place bytes) 0 0) 0x08 (λ e. n (sym (tag_there place bytes) ∙ e)))

-- It is the end, or the 08 field of an objective literal from q on.
pub data Opens (q : ℕ) : List ℕ → Type 0 where
  ended : {rest : List ℕ} → Opens q (0x7F ∷ rest)
  opened : {o a b : ℕ} {rest : List ℕ} → q ≤ o → Opens q (0x08 ∷ a ∷ b ∷ o / 256 ∷ o % 256 ∷ rest)

opens_from : {q r : ℕ} {bytes : List ℕ} → q ≤ r → Opens r bytes → Opens q bytes
opens_from h ended = ended
opens_from {q} h (opened {o} k) = let w : q ≤ o = omega arith in opened w

pub opens_stands : {q : ℕ} {bytes : List ℕ} → Opens q bytes → FieldStands bytes
opens_stands ended = record { tagged = omega arith; numbered = λ e. absurd (omega arith) }
opens_stands (opened h) = record { tagged = omega arith; numbered = λ e. omega arith }

opens_past : {q : ℕ} {bytes : List ℕ} → Opens q bytes → (o : ℕ) → o < q → literal_in bytes ≡ Some o → ⊥
unfolding literal_in
opens_past ended o h e = cc
opens_past (opened {o = m} l) o h e = let n : m / 256 * 256 + m % 256 ≡ o = cc in omega arith

module _ (p : Program) (after : List ℕ) where
  opens_entries : (count q : ℕ) → Opens q (encode_fields (entries_from p count q) ++ (encode_field 0x7F [] ++ after))
  unfolding entries_from encode_fields
  opens_entries zero q = unfold encode_field in ended
  opens_entries (suc count) q = go (has_entry p q) (opens_entries count (q + 1)) where
    go : (b : Bool) → Opens (q + 1) (encode_fields (entries_from p count (q + 1)) ++ (encode_field 0x7F [] ++ after))
        → Opens q (encode_fields (cond b (entry p q) [] ++ entries_from p count (q + 1)) ++ (encode_field 0x7F [] ++ after))
    go true ih = let h : q ≤ q = omega arith in unfold entry encode_field encode_numbers in opened h
    go false ih = opens_from (omega arith) ih

  pub bytes_open : (o : ℕ) → Opens o (bytes_from p o after)
  unfolding bytes_from
  bytes_open o = opens_entries (judged p.atoms - o) o

  module _ (o : ℕ) (h : o < judged p.atoms) where
    -- An objective literal's entry, if it has one, and those after it.
    bytes_next : bytes_from p o after ≡ encode_fields (entry_if_any p o) ++ bytes_from p (o + 1) after
    unfolding bytes_from entries_from
    bytes_next =
        let s : judged p.atoms - o ≡ suc (judged p.atoms - (o + 1)) = omega arith in
        rw (s, encode_fields_append (entry_if_any p o) (entries_from p (judged p.atoms - (o + 1)) (o + 1)))
        (append_assoc (encode_fields (entry_if_any p o)) (encode_fields (entries_from p (judged p.atoms - (o + 1)) (o + 1))) (encode_field 0x7F [] ++ after))

    pub bytes_none : has_entry p o ≡ false → bytes_from p o after ≡ bytes_from p (o + 1) after
    bytes_none e = bytes_next ∙ rw e (unfold encode_fields in refl)

    pub bytes_entry : has_entry p o ≡ true
        → bytes_from p o after
        ≡ encode_field 0x08 (encode_numbers (o ∷ folds_of p o)) ++ (encode_fields (map (fold_field (all_rules p)) (folds_of p o)) ++ bytes_from p (o + 1) after)
    bytes_entry e =
        bytes_next
        ∙ rw (e, entry_is p o)
        (append_assoc (encode_field 0x08 (encode_numbers (o ∷ folds_of p o))) (encode_fields (map (fold_field (all_rules p)) (folds_of p o)))
        (bytes_from p (o + 1) after))

    literal_here : has_entry p o ≡ true → literal_in (bytes_from p o after) ≡ Some o
    unfolding literal_in
    literal_here e =
        ap literal_in (bytes_entry e) ∙ (unfold encode_field encode_numbers in (let n : o / 256 * 256 + o % 256 ≡ o = omega arith in ap Some n))

    -- The first field tells whether there is one.
    pub entry_told : literal_in (bytes_from p o after) ≡ Some o → has_entry p o ≡ true
    entry_told e = go (has_entry p o) refl where
      go : (b : Bool) → has_entry p o ≡ b → b ≡ true
      go true q = refl
      go false q = absurd (opens_past (bytes_open (o + 1)) o (omega arith) (ap literal_in (sym (bytes_none q)) ∙ e))

    pub none_told : (literal_in (bytes_from p o after) ≡ Some o → ⊥) → has_entry p o ≡ false
    none_told n = go (has_entry p o) refl where
      go : (b : Bool) → has_entry p o ≡ b → b ≡ false
      go true q = absurd (n (literal_here q))
      go false q = refl

-- ---- the buffer

-- A buffer that the dual fills begins with it,
pub filled_starts : (p : Program) → Valid p → (buffer : List ℕ) → DualStarts p (filled (dual_of p) buffer)
filled_starts p v buffer = record { valid = v; starts = take-append_seam (dual_of p) (drop (length (dual_of p)) buffer) }

-- and at its start are the entries of all objective literals.
pub starts_at : (p : Program) (bytes : List ℕ) → DualStarts p bytes → EntriesAt p bytes 0 0
unfolding bytes_from encode_dual dual
starts_at p bytes s = record {
  valid = s.valid;
  stands =
      let after = drop (length (dual_of p)) bytes in
      let n : judged p.atoms - 0 ≡ judged p.atoms = omega arith in
      sym (take-append-drop (length (dual_of p)) bytes)
      ∙ ap (λ (x : List ℕ). x ++ after) s.starts
      ∙ append_assoc (encode_fields (dual p)) (encode_field 0x7F []) after
      ∙ rw n refl;
}
