-- What was read stands there as it would be written: a field, and a run of fields.
-- Assumes nothing.
use mathlib.Core.Path.{◌≡◌, refl}
use mathlib.Core.Bool.{Bool, true}
use mathlib.Core.List.{List, [], ◌∷◌, ◌++◌, append_assoc}
use Prim.Native.Nat.{ℕ, ◌+◌, ◌*◌, ◌/◌, ◌%◌, ◌≤◌, ◌<◌}
use native.Mathlib.Omega.{arith}
use lib.ListN.{length, get_or, drop, length-drop, take-append-drop}
use lib.Seq.{drop-drop}
use Rattle.papers.specs.Field.{numbers, size_of, length_allowed}
use Rattle.papers.specs.Reading.{Run}
use Rattle.papers.specs.Encoding.{encode_numbers, encode_field, encode_run}
use Rattle.papers.proofs.FieldLaws.{Whole, allowed_even}
use Rattle.papers.proofs.NumberLaws.{Bytes, bytes_drop, bytes_take, length_numbers, encoded_numbers}
use Rattle.papers.proofs.RunLaws.{RunReads, ended, further}

-- ---- one field

-- A heading is three bytes: the tag, and the length's two.
heading : (bytes : List ℕ) → 3 ≤ length bytes → Bytes bytes
    → bytes ≡ get_or bytes 0 0 ∷ size_of bytes / 256 ∷ size_of bytes % 256 ∷ drop 3 bytes
unfolding size_of
heading [] w h = absurd (omega arith)
heading (tag ∷ []) w h = absurd (omega arith)
heading (tag ∷ high ∷ []) w h = absurd (omega arith)
heading (tag ∷ high ∷ low ∷ rest) w h =
    let b : low < 256 = h 2 in
    let first : high ≡ (high * 256 + low) / 256 = omega arith in
    let second : low ≡ (high * 256 + low) % 256 = omega arith in
    cc

module _ {tag place : ℕ} {full : Bool} {bytes content : List ℕ} (field : Whole tag full place bytes content) where
  pub field_written : Bytes bytes → drop place bytes ≡ encode_field tag content ++ drop (place + 3 + length content) bytes
  unfolding encode_field
  field_written h =
      let l = length-drop place bytes in
      let parts = take-append-drop (length content) (drop (place + 3) bytes) in
      let c = field.content_is in
      let later = drop-drop (length content) (place + 3) bytes in
      let whole = heading (drop place bytes) (omega arith) (bytes_drop place bytes h) in
      let three = drop-drop 3 place bytes in
      let t = field.tagged in
      let s = field.size in
      cc

-- What a field of numbers tells. Every field but the edition is one.
pub record Holds (tag place : ℕ) (bytes ns : List ℕ) : Type 0 where
  pub allowed : length_allowed tag (2 * length ns) ≡ true
  pub within : place + 3 + 2 * length ns ≤ length bytes
  pub written : Bytes bytes → drop place bytes ≡ encode_field tag (encode_numbers ns) ++ drop (place + 3 + 2 * length ns) bytes

pub field_holds : {tag place : ℕ} {full : Bool} {bytes content : List ℕ} → (tag ≡ 1 → ⊥) → Whole tag full place bytes content
    → Holds tag place bytes (numbers content)
field_holds {tag} {place} {full} {bytes} {content} h field =
    let even = allowed_even tag _ h field.allowed in
    let l : 2 * length (numbers content) ≡ length content = length_numbers content even in
    record {
      allowed = rw l field.allowed;
      within = omega arith;
      written = λ b.
          let c : Bytes content = rw field.content_is (bytes_take (length content) (drop (place + 3) bytes) (bytes_drop (place + 3) bytes b)) in
          rw (encoded_numbers content even c, l) (field_written field b);
    }

-- ---- a run of fields

pub run_written : {tag n : ℕ} {abducibles : List ℕ} {bytes : List ℕ} {room place : ℕ} {run : Run} → (tag ≡ 1 → ⊥) → Bytes bytes
    → RunReads tag n abducibles bytes room place run → drop place bytes ≡ encode_run tag run.contents ++ drop run.next bytes
unfolding encode_run
run_written h b (ended stop) = refl
run_written {tag} h b (further {content} field fault more) =
    let here = field_holds h field in
    let l : 2 * length (numbers content) ≡ length content = length_numbers content (allowed_even tag _ h field.allowed) in
    rw (here.written b, l, run_written h b more, append_assoc)
