-- Laws of two-byte numbers: reading and writing them undo one another on lists of bytes.
-- Assumes nothing.
use mathlib.Core.Path.{◌≡◌, refl, ap}
use mathlib.Core.List.{List, [], ◌∷◌, ◌++◌}
use Prim.Native.Nat.{ℕ, suc, ◌+◌, ◌*◌, ◌/◌, ◌%◌, ◌≤◌, ◌<◌}
use native.Mathlib.Omega.{arith}
use native.Mathlib.Decide.{dec_lt}
use lib.ListN.{length, get_or, take, drop, length-take, get_or-eq_default}
use lib.Seq.{get_or-take, get_or-drop}
use Rattle.papers.specs.Field.{number, numbers}
use Rattle.papers.specs.Encoding.{encode_numbers}

-- ---- bytes

-- Every element is below 256.
abbrev pub Bytes : List ℕ → Type 0
Bytes bytes = (i : ℕ) → get_or bytes i 0 < 256

pub bytes_drop : (n : ℕ) (bytes : List ℕ) → Bytes bytes → Bytes (drop n bytes)
bytes_drop n bytes h i = rw get_or-drop (h (n + i))

pub bytes_take : (n : ℕ) (bytes : List ℕ) → Bytes bytes → Bytes (take n bytes)
bytes_take n bytes h i = elim (dec_lt i n) [
  | yes w ↦ rw get_or-take (h i)
  | no w ↦ let l : length (take n bytes) ≤ i = rw length-take (omega arith) in rw get_or-eq_default (omega arith)
]

-- ---- numbers

-- Two bytes are one number.
pub length_numbers : (content : List ℕ) → length content % 2 ≡ 0 → 2 * length (numbers content) ≡ length content
unfolding numbers
length_numbers [] e = refl
length_numbers (b ∷ []) e = absurd (omega arith)
length_numbers (high ∷ low ∷ rest) e = let ih = length_numbers rest (omega arith) in omega arith

pub length_encoded : (ns : List ℕ) → length (encode_numbers ns) ≡ 2 * length ns
unfolding encode_numbers
length_encoded [] = refl
length_encoded (n ∷ more) = let ih = length_encoded more in omega arith

pub numbers_append : (a b : List ℕ) → length a % 2 ≡ 0 → numbers (a ++ b) ≡ numbers a ++ numbers b
unfolding numbers
numbers_append [] b e = refl
numbers_append (x ∷ []) b e = absurd (omega arith)
numbers_append (high ∷ low ∷ rest) b e = ap (λ (l : List ℕ). number high low ∷ l) (numbers_append rest b (omega arith))

-- A number is read as it was written,
pub numbers_encoded : (ns : List ℕ) → numbers (encode_numbers ns) ≡ ns
unfolding numbers encode_numbers
numbers_encoded [] = refl
numbers_encoded (n ∷ more) =
    let one : number (n / 256) (n % 256) ≡ n = omega arith in
    let ih = numbers_encoded more in
    cc

-- and written as it was read, where it was two bytes.
pub encoded_numbers : (content : List ℕ) → length content % 2 ≡ 0 → Bytes content → encode_numbers (numbers content) ≡ content
unfolding numbers encode_numbers
encoded_numbers [] e h = refl
encoded_numbers (b ∷ []) e h = absurd (omega arith)
encoded_numbers (high ∷ low ∷ rest) e h =
    let l : low < 256 = h 1 in
    let first : number high low / 256 ≡ high = omega arith in
    let second : number high low % 256 ≡ low = omega arith in
    let ih = encoded_numbers rest (omega arith) (λ i. h (suc (suc i))) in
    cc
