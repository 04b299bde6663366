-- A field as the loop that writes its numbers meets it.
-- Assumes nothing.
use mathlib.Core.Path.{◌≡◌, ap, ◌∙◌}
use mathlib.Core.List.{List, [], ◌∷◌, ◌++◌}
use Prim.Native.Nat.{ℕ, ◌+◌, ◌*◌, ◌/◌, ◌%◌, ◌≤◌, ◌<◌}
use native.Mathlib.Omega.{arith}
use lib.ListN.{length, get_or, take, set}
use lib.Seq.{length-take-le}
use Rattle.std.proofs.lemmas.List.{take_more}
use Rattle.papers.specs.Encoding.{encode_numbers, encode_field}
use Rattle.papers.proofs.NumberLaws.{length_encoded}
use Rattle.dual.specs.Bytes.{filled}
use Rattle.dual.proofs.FilledLaws.{filled_again, Numbered, numbered_none, numbered_more}

-- The first so many numbers are written after the heading's three bytes.
pub fields_none : (numbers start : List ℕ) → 3 ≤ length start → Numbered 3 start start (take 0 numbers)
fields_none numbers start h = numbered_none 3 start h

pub fields_more : (numbers start buffer : List ℕ) (i : ℕ) → Numbered 3 start buffer (take i numbers) → 3 + 2 * length numbers ≤ length start
    → i < length numbers → {v : ℕ} → v ≡ get_or numbers i 0
    → Numbered 3 start (set (set buffer (3 + 2 * i) (v / 256)) (3 + 2 * i + 1) (v % 256)) (take (i + 1) numbers)
fields_more numbers start buffer i w fits h {v} e =
    let l = length-take-le i numbers (omega arith) in
    let more = numbered_more 3 start buffer (take i numbers) w (omega arith) (3 + 2 * i) v (omega arith) (omega arith) in
    let last = take_more numbers i 0 h in
    rw (last, ← e) more

pub field_filled : (tag size : ℕ) (numbers entry start buffer : List ℕ) → size ≡ 2 * length numbers → 2 < length entry
    → start ≡ filled (tag ∷ size / 256 ∷ size % 256 ∷ []) entry → Numbered 3 start buffer numbers
    → buffer ≡ filled (encode_field tag (encode_numbers numbers)) entry
unfolding encode_field
field_filled tag size numbers entry start buffer e h s w =
    let l : length (encode_numbers numbers) ≡ size = let k = length_encoded numbers in omega arith in
    rw l
    (w.is
    ∙ ap (λ (b : List ℕ). filled (take 3 b ++ encode_numbers numbers) b) s
    ∙ filled_again (tag ∷ size / 256 ∷ size % 256 ∷ []) (encode_numbers numbers) entry (omega arith))
