-- A buffer that is filled from its start: one byte more, one number more, one part more.
-- Assumes nothing.
use mathlib.Core.Path.{◌≡◌, refl, sym, ap, ◌∙◌}
use mathlib.Core.List.{List, [], ◌∷◌, ◌++◌, append_assoc, append-nil}
use Prim.Native.Nat.{ℕ, suc, ◌+◌, ◌-◌, ◌*◌, ◌/◌, ◌%◌, ◌≤◌, ◌<◌}
use native.Mathlib.Omega.{arith}
use lib.ListN.{length, get_or, take, drop, set, length-append, length-drop, take-append-drop, drop_of_length-le}
use borrow.Rule.Slice.PartMut.{put_mid}
use lib.Seq.{drop-cons, drop-drop, take-append_seam, drop-append_seam, drop-append-add, set-append_seam, length-take-le}
use Rattle.papers.specs.Encoding.{encode_numbers}
use Rattle.papers.proofs.NumberLaws.{length_encoded}
use Rattle.dual.specs.Bytes.{filled}

-- One byte more.
pub filled_set : (bytes buffer : List ℕ) (b : ℕ) → length bytes < length buffer → set (filled bytes buffer) (length bytes) b ≡ filled (bytes ++ b ∷ []) buffer
filled_set bytes buffer b h =
    ap (λ (l : List ℕ). set (bytes ++ l) (length bytes) b) (drop-cons buffer (length bytes) 0 h)
    ∙ set-append_seam bytes (get_or buffer (length bytes) 0) (drop (suc (length bytes)) buffer) b
    ∙ sym (append_assoc bytes (b ∷ []) (drop (suc (length bytes)) buffer))
    ∙ ap (λ (k : ℕ). (bytes ++ b ∷ []) ++ drop k buffer) (let e : suc (length bytes) ≡ length (bytes ++ b ∷ []) = simp length-append (omega arith) in e)

-- One two-byte number more.
pub filled_number : (bytes buffer : List ℕ) (at v : ℕ) → at ≡ length bytes → at + 1 < length buffer
    → set (set (filled bytes buffer) at (v / 256)) (at + 1) (v % 256) ≡ filled (bytes ++ encode_numbers (v ∷ [])) buffer
unfolding encode_numbers
filled_number bytes buffer at v e h =
    let l : length (bytes ++ v / 256 ∷ []) ≡ at + 1 = simp length-append (omega arith) in
    rw e (ap (λ (x : List ℕ). set x (length bytes + 1) (v % 256)) (filled_set bytes buffer (v / 256) (omega arith)))
    ∙ ap (λ (k : ℕ). set (filled (bytes ++ v / 256 ∷ []) buffer) k (v % 256)) (let q : length bytes + 1 ≡ length (bytes ++ v / 256 ∷ []) = omega arith in q)
    ∙ filled_set (bytes ++ v / 256 ∷ []) buffer (v % 256) (omega arith)
    ∙ ap (λ (x : List ℕ). filled x buffer) (append_assoc bytes (v / 256 ∷ []) (v % 256 ∷ []))

-- One part more: the rest of the buffer is filled from its start.
pub filled_part : (bytes more buffer : List ℕ)
    → take (length bytes) (filled bytes buffer) ++ filled more (drop (length bytes) (filled bytes buffer)) ≡ filled (bytes ++ more) buffer
filled_part bytes more buffer =
    rw (
      take-append_seam bytes (drop (length bytes) buffer),
      drop-append_seam bytes (drop (length bytes) buffer),
      drop-drop (length more) (length bytes) buffer,
      length-append bytes more,
    )
    (sym (append_assoc bytes more (drop (length bytes + length more) buffer)))

-- Five bytes, one by one.
pub filled_heading : (buffer : List ℕ) (tag x y u v : ℕ) → 4 < length buffer
    → set (set (set (set (set buffer 0 tag) 1 x) 2 y) 3 u) 4 v ≡ filled (tag ∷ x ∷ y ∷ u ∷ v ∷ []) buffer
filled_heading [] tag x y u v h = absurd (omega arith)
filled_heading (a ∷ []) tag x y u v h = absurd (omega arith)
filled_heading (a ∷ b ∷ []) tag x y u v h = absurd (omega arith)
filled_heading (a ∷ b ∷ c ∷ []) tag x y u v h = absurd (omega arith)
filled_heading (a ∷ b ∷ c ∷ d ∷ []) tag x y u v h = absurd (omega arith)
filled_heading (a ∷ b ∷ c ∷ d ∷ e ∷ l) tag x y u v h = refl

-- ---- a loop that fills on

-- Filling on from a prefix that stands in the buffer already.
pub filled_again : (bytes more buffer : List ℕ) → length bytes ≤ length buffer
    → filled (take (length bytes) (filled bytes buffer) ++ more) (filled bytes buffer) ≡ filled (bytes ++ more) buffer
filled_again bytes more buffer h =
    let l : length (bytes ++ more) ≡ length bytes + length more = length-append bytes more in
    rw (
      take-append_seam bytes (drop (length bytes) buffer),
      l,
      drop-append-add bytes (drop (length bytes) buffer) (length more),
      drop-drop (length more) (length bytes) buffer,
    )

pub filled_whole : (n : ℕ) (buffer : List ℕ) → n ≤ length buffer → filled (take n buffer ++ []) buffer ≡ buffer
filled_whole n buffer h =
    rw (append-nil (take n buffer), length-take-le n buffer h) (take-append-drop n buffer)

pub numbers_more : (a : List ℕ) (v : ℕ) → encode_numbers (a ++ v ∷ []) ≡ encode_numbers a ++ encode_numbers (v ∷ [])
unfolding encode_numbers
numbers_more [] v = refl
numbers_more (x ∷ a) v = ap (λ (l : List ℕ). x / 256 ∷ x % 256 ∷ l) (numbers_more a v)

-- Numbers are written one by one after the first bytes of a buffer.
pub record Numbered (n : ℕ) (start buffer numbers : List ℕ) : Type 0 where
  pub is : buffer ≡ filled (take n start ++ encode_numbers numbers) start

pub numbered_none : (n : ℕ) (start : List ℕ) → n ≤ length start → Numbered n start start []
unfolding encode_numbers
numbered_none n start h = record { is = sym (filled_whole n start h) }

module _ (n : ℕ) (start buffer numbers : List ℕ) (w : Numbered n start buffer numbers) (fits : n + 2 * length numbers ≤ length start) where
  prefix_length : length (take n start ++ encode_numbers numbers) ≡ n + 2 * length numbers
  prefix_length = simp (length-append, length_encoded) (let t = length-take-le n start (omega arith) in omega arith)

  pub numbered_more : (at v : ℕ) → at ≡ n + 2 * length numbers → at + 1 < length start
      → Numbered n start (set (set buffer at (v / 256)) (at + 1) (v % 256)) (numbers ++ v ∷ [])
  numbered_more at v e h =
      let l = prefix_length in
      let apart = append_assoc (take n start) (encode_numbers numbers) (encode_numbers (v ∷ [])) in
      let together = ap (λ (x : List ℕ). take n start ++ x) (sym (numbers_more numbers v)) in
      record {
        is =
            ap (λ (b : List ℕ). set (set b at (v / 256)) (at + 1) (v % 256)) w.is
            ∙ filled_number (take n start ++ encode_numbers numbers) start at v (omega arith) h
            ∙ ap (λ (x : List ℕ). filled x start) (apart ∙ together);
      }

-- A part to the end, put back.
pub put_end : (end : ℕ) (buffer part : List ℕ) → put_mid end (length buffer - end) buffer part ≡ take end buffer ++ part
put_end end buffer part =
    let l : length (drop end buffer) ≡ length buffer - end = length-drop end buffer in
    rw (drop_of_length-le (drop end buffer) {i = length buffer - end} (omega arith), append-nil part)

-- Three bytes, one by one.
pub filled_three : (buffer : List ℕ) (x y z : ℕ) → 2 < length buffer → set (set (set buffer 0 x) 1 y) 2 z ≡ filled (x ∷ y ∷ z ∷ []) buffer
filled_three [] x y z h = absurd (omega arith)
filled_three (a ∷ []) x y z h = absurd (omega arith)
filled_three (a ∷ b ∷ []) x y z h = absurd (omega arith)
filled_three (a ∷ b ∷ c ∷ l) x y z h = refl
