-- Decimal numbers: the digits as they follow from those of n / 10, how many there are, that they read back as the number, and that
-- none leads with a zero. Assumes nothing.
use mathlib.Core.Path.{◌≡◌, refl, sym, ap, ◌∙◌}
use mathlib.Core.List.{List, [], ◌∷◌, ◌++◌}
use Prim.Native.Nat.{ℕ, zero, suc, ◌+◌, ◌-◌, ◌*◌, ◌/◌, ◌%◌, ◌^◌, ◌≤◌, ◌<◌}
use native.Mathlib.Omega.{arith}
use native.Mathlib.Decide.{dec_lt}
use borrow.Author.Tests.{lt-ltb, le-ltb}
use lib.ListN.{length, get_or, length-append, get_or-append}
use Rattle.decimals.specs.Decimal.{digits, decimal}

-- ---- one digit, and one more

digits_one : (room n : ℕ) → n < 10 → digits (suc room) n ≡ (48 + n) ∷ []
unfolding digits
digits_one room n h = rw (lt-ltb n 10 h)

digits_more : (room n : ℕ) → 10 ≤ n → digits (suc room) n ≡ digits room (n / 10) ++ ((48 + n % 10) ∷ [])
unfolding digits
digits_more room n h = rw (le-ltb n 10 h)

-- Where the room is enough, more does not matter.
digits_room : (room other n : ℕ) → n < room → n < other → digits room n ≡ digits other n
digits_room zero other n h g = absurd (omega arith)
digits_room (suc room) zero n h g = absurd (omega arith)
digits_room (suc room) (suc other) n h g = elim (dec_lt n 10) [
  | yes small ↦ digits_one room n small ∙ sym (digits_one other n small)
  | no large ↦
      digits_more room n (omega arith)
      ∙ ap (λ (l : List ℕ). l ++ ((48 + n % 10) ∷ [])) (digits_room room other (n / 10) (omega arith) (omega arith))
      ∙ sym (digits_more other n (omega arith))
]

pub decimal_one : (n : ℕ) → n < 10 → decimal n ≡ (48 + n) ∷ []
unfolding decimal
decimal_one n h = digits_one n n h

pub decimal_more : (n : ℕ) → 10 ≤ n → decimal n ≡ decimal (n / 10) ++ ((48 + n % 10) ∷ [])
unfolding decimal
decimal_more n h =
    digits_more n n h
    ∙ ap (λ (l : List ℕ). l ++ ((48 + n % 10) ∷ [])) (digits_room n (suc (n / 10)) (n / 10) (omega arith) (omega arith))

-- ---- how many

-- A number below 10 ^ k has at most k digits, for k above 0.
pub decimal_length : (k n : ℕ) → n < 10 ^ suc k → length (decimal n) ≤ suc k
decimal_length zero n h = rw (decimal_one n (omega arith)) (omega arith)
decimal_length (suc k) n h = elim (dec_lt n 10) [
  | yes small ↦ rw (decimal_one n small) (omega arith)
  | no large ↦
      let ih = decimal_length k (n / 10) (omega arith) in
      let more = ap length (decimal_more n (omega arith)) in
      let l = length-append (decimal (n / 10)) ((48 + n % 10) ∷ []) in
      omega arith
]

-- ---- read back

-- The number that digits say, after what those before them said.
unfoldable pub value_after : ℕ → List ℕ → ℕ
value_after before [] = before
value_after before (digit ∷ more) = value_after (10 * before + (digit - 48)) more

value_append : (before : ℕ) (a b : List ℕ) → value_after before (a ++ b) ≡ value_after (value_after before a) b
unfolding value_after
value_append before [] b = refl
value_append before (digit ∷ a) b = value_append (10 * before + (digit - 48)) a b

value_digits : (room n : ℕ) → n < room → value_after 0 (digits room n) ≡ n
unfolding value_after
value_digits zero n h = absurd (omega arith)
value_digits (suc room) n h = elim (dec_lt n 10) [
  | yes small ↦ rw (digits_one room n small) (omega arith)
  | no large ↦
      let ih = value_digits room (n / 10) (omega arith) in
      rw (digits_more room n (omega arith), value_append 0 (digits room (n / 10)) ((48 + n % 10) ∷ []), ih) (omega arith)
]

-- The digits of a number read back as the number.
pub decimal_read : (n : ℕ) → value_after 0 (decimal n) ≡ n
unfolding decimal
decimal_read n = value_digits (suc n) n (omega arith)

leading : (room n : ℕ) → n < room → 0 < n → (48 < get_or (digits room n) 0 0) × (0 < length (digits room n))
leading zero n h p = absurd (omega arith)
leading (suc room) n h p = elim (dec_lt n 10) [
  | yes small ↦ rw (digits_one room n small) (omega arith, omega arith)
  | no large ↦
      let ih = leading room (n / 10) (omega arith) (omega arith) in
      let l = length-append (digits room (n / 10)) ((48 + n % 10) ∷ []) in
      rw (digits_more room n (omega arith)) (rw (get_or-append (digits room (n / 10)) ((48 + n % 10) ∷ []) 0 0 ih.1) ih.0, omega arith)
]

-- No number but 0 leads with `0`.
pub decimal_leading : (n : ℕ) → 0 < n → 48 < get_or (decimal n) 0 0
unfolding decimal
decimal_leading n p = (leading (suc n) n (omega arith) p).0
