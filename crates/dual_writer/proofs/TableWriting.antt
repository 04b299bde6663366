-- All entries, as the loop that writes them meets them; and the end.
-- Assumes nothing.
use mathlib.Core.Path.{◌≡◌, refl, sym, ap, ◌∙◌}
use mathlib.Core.Bool.{Bool, true, false, cond}
use mathlib.Core.List.{List, [], ◌∷◌, ◌++◌, append_assoc}
use Prim.Native.Nat.{ℕ, zero, suc, ◌+◌, ◌-◌, ◌≤◌, ◌<◌}
use native.Mathlib.Omega.{arith}
use borrow.Author.Tests.{le-leb, lt-leb}
use lib.Dec.{leb}
use lib.ListN.{length, take, drop, length-append}
use Rattle.std.proofs.Common.{Option, Some, None, Ok, Err}
use Rattle.literals.specs.Numbering.{judged}
use Rattle.papers.specs.Program.{Program, all_rules}
use Rattle.papers.specs.Outcome.{accepted}
use Rattle.papers.specs.Reading.{read_file}
use Rattle.papers.specs.Encoding.{encode_field}
use Rattle.papers.specs.Told.{tells}
use Rattle.dual.specs.Table.{Field, has_entry, entry, entry_if_any, entries_from, dual}
use Rattle.dual.specs.TableEncoding.{encode_fields, encode_dual}
use Rattle.dual.specs.Length.{rules_length, dual_length}
use Rattle.dual_writer.specs.declared.DualError.TheVariants.{Short}
use Rattle.dual.specs.Bytes.{dual_of, filled}
use Rattle.dual_writer.specs.WrittenDual.{written_told, dual_told, dual_after}
use Rattle.dual.proofs.AllEntries.{entries_more}
use Rattle.dual.proofs.Lengths.{dual_length_lem}
use Rattle.dual.proofs.ReadBack.{encode_fields_append}
use Rattle.dual.proofs.FilledLaws.{filled_part}

-- ---- one objective literal

-- The length tells whether there is an entry.
module _ (p : Program) (o : ℕ) {size : Option ℕ} (is : size ≡ cond (has_entry p o) (Some (5 + rules_length (all_rules p) o)) None) where
  pub no_entry : size ≡ None → entry_if_any p o ≡ []
  no_entry z = go (has_entry p o) (sym is ∙ z) where
    go : (b : Bool) → cond b (Some (5 + rules_length (all_rules p) o)) None ≡ None → cond b (entry p o) [] ≡ []
    go true h = cc
    go false h = refl

  pub some_entry : {n : ℕ} → size ≡ Some n → entry_if_any p o ≡ entry p o
  some_entry {n} z = go (has_entry p o) (sym is ∙ z) where
    go : (b : Bool) → cond b (Some (5 + rules_length (all_rules p) o)) None ≡ Some n → cond b (entry p o) [] ≡ entry p o
    go true h = refl
    go false h = cc

-- ---- all of them

module _ (p : Program) where
  entries_split : (a b o : ℕ) → entries_from p (a + b) o ≡ entries_from p a o ++ entries_from p b (o + a)
  unfolding entries_from
  entries_split zero b o =
      let e : zero + b ≡ b = omega arith in
      let f : o + 0 ≡ o = omega arith in
      rw (e, f)
  entries_split (suc a) b o =
      let e : suc a + b ≡ suc (a + b) = omega arith in
      let f : o + 1 + a ≡ o + suc a = omega arith in
      let apart = sym (append_assoc (entry_if_any p o) (entries_from p a (o + 1)) (entries_from p b (o + 1 + a))) in
      rw e (ap (λ (l : List Field). entry_if_any p o ++ l) (entries_split a b (o + 1)) ∙ apart)
      ∙ ap (λ (k : ℕ). (entry_if_any p o ++ entries_from p a (o + 1)) ++ entries_from p b k) f

  bytes_more : (o : ℕ) → encode_fields (entries_from p (o + 1) 0) ≡ encode_fields (entries_from p o 0) ++ encode_fields (entry_if_any p o)
  bytes_more o = ap encode_fields (entries_more p o) ∙ encode_fields_append (entries_from p o 0) (entry_if_any p o)

  pub table_length : length (encode_fields (dual p)) + 3 ≡ dual_length p
  unfolding encode_dual encode_field
  table_length = let a = length-append (encode_fields (dual p)) (0x7F ∷ 0 ∷ 0 ∷ []) in let b = dual_length_lem p in omega arith

  -- There is room for one more.
  pub table_room : (count o : ℕ) → count ≡ judged p.atoms → o < count
      → length (encode_fields (entries_from p o 0)) + length (encode_fields (entry_if_any p o)) + 3 ≤ dual_length p
  unfolding dual
  table_room count o e h =
      let m = ap length (bytes_more o) ∙ length-append (encode_fields (entries_from p o 0)) (encode_fields (entry_if_any p o)) in
      let s : o + 1 + (count - (o + 1)) ≡ judged p.atoms = omega arith in
      let later = entries_from p (count - (o + 1)) (0 + (o + 1)) in
      let split = ap (λ (k : ℕ). entries_from p k 0) (sym s) ∙ entries_split (o + 1) (count - (o + 1)) 0 in
      let q = ap length (ap encode_fields split ∙ encode_fields_append (entries_from p (o + 1) 0) later) in
      let r = length-append (encode_fields (entries_from p (o + 1) 0)) (encode_fields later) in
      let t = table_length in
      omega arith

-- ---- the loop

pub record Tabled (p : Program) (start buffer : List ℕ) (o end : ℕ) : Type 0 where
  pub ends : end ≡ length (encode_fields (entries_from p o 0))
  pub written : buffer ≡ filled (encode_fields (entries_from p o 0)) start

pub tabled_none : (p : Program) (start : List ℕ) → Tabled p start start 0 0
unfolding entries_from encode_fields
tabled_none p start = record { ends = refl; written = refl }

pub tabled_more : (p : Program) (start buffer : List ℕ) (o end : ℕ) → Tabled p start buffer o end → (part : List ℕ) (size : ℕ)
    → part ≡ filled (encode_fields (entry_if_any p o)) (drop end buffer) → size ≡ length (encode_fields (entry_if_any p o))
    → Tabled p start (take end buffer ++ part) (o + 1) (end + size)
tabled_more p start buffer o end w part size q s =
    let bytes = encode_fields (entries_from p o 0) in
    let more = encode_fields (entry_if_any p o) in
    let m = bytes_more p o in
    let l = ap length m ∙ length-append bytes more in
    record {
      ends = omega (arith, w.ends);
      written =
          ap (λ (x : List ℕ). take end buffer ++ x) q
          ∙ ap (λ (x : List ℕ). take end x ++ filled more (drop end x)) w.written
          ∙ ap (λ (k : ℕ). take k (filled bytes start) ++ filled more (drop k (filled bytes start))) w.ends
          ∙ filled_part bytes more start
          ∙ ap (λ (x : List ℕ). filled x start) (sym m);
    }

pub tabled_done : (p : Program) (start buffer : List ℕ) (o end : ℕ) → Tabled p start buffer o end → o ≡ judged p.atoms
    → (end ≡ length (encode_fields (dual p))) × (buffer ≡ filled (encode_fields (dual p)) start)
unfolding dual
tabled_done p start buffer o end w e = (rw e at w.ends, rw e at w.written)

-- ---- the end, and the answer

pub end_written : (p : Program) (start buffer part : List ℕ) (end : ℕ) → end ≡ length (encode_fields (dual p)) → buffer ≡ filled (encode_fields (dual p)) start
    → part ≡ filled (encode_field 0x7F []) (drop end buffer) → take end buffer ++ part ≡ filled (dual_of p) start
unfolding encode_dual
end_written p start buffer part end e w q =
    let bytes = encode_fields (dual p) in
    ap (λ (x : List ℕ). take end buffer ++ x) q
    ∙ ap (λ (x : List ℕ). take end x ++ filled (encode_field 0x7F []) (drop end x)) w
    ∙ ap (λ (k : ℕ). take k (filled bytes start) ++ filled (encode_field 0x7F []) (drop k (filled bytes start))) e
    ∙ filled_part bytes (encode_field 0x7F []) start

module _ (bytes buffer : List ℕ) (p : Program) (is : read_file bytes ≡ accepted p) {size : ℕ} (sized : size ≡ dual_length p) where
  same_size : length (dual_of p) ≡ size
  same_size = dual_length_lem p ∙ sym sized

  pub dual_short : (allowed : Bool) → length buffer < size
      → (written_told (Err Short) ≡ dual_told (read_file bytes) (length buffer)) × (buffer ≡ cond allowed (dual_after (read_file bytes) buffer) buffer)
  unfolding written_told dual_told
  dual_short allowed h =
      let t : leb (length (dual_of p)) (length buffer) ≡ false = rw same_size (lt-leb size (length buffer) h) in
      (rw (is, t), rw (is, t) (go allowed)) where
        go : (b : Bool) → buffer ≡ cond b buffer buffer
        go true = refl
        go false = refl

  -- Where it fits, the answer is its length, whether it is written or not.
  pub dual_length_is : size ≤ length buffer → written_told (Ok size) ≡ dual_told (read_file bytes) (length buffer)
  unfolding written_told dual_told
  dual_length_is h =
      let t : leb (length (dual_of p)) (length buffer) ≡ true = rw same_size (le-leb size (length buffer) h) in
      rw (is, t) (ap tells (sym same_size))

  pub dual_fits : size ≤ length buffer → (after : List ℕ) → after ≡ filled (dual_of p) buffer → after ≡ dual_after (read_file bytes) buffer
  dual_fits h after e =
      let t : leb (length (dual_of p)) (length buffer) ≡ true = rw same_size (le-leb size (length buffer) h) in
      rw (is, t) e
