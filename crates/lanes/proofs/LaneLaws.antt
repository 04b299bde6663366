-- Laws of lanes: bit l of words joined and negated; two words with the same bits are one; the set of a lane; the sum of the words.
-- Assumes nothing.
use mathlib.Core.Path.{◌≡◌, refl, sym, ap, subst, ◌∙◌}
use mathlib.Core.Bool.{true, false, not, true≢false}
use mathlib.Core.List.{List, [], ◌∷◌}
use Prim.Native.Nat.{ℕ, zero, suc, ◌+◌, ◌-◌, ◌/◌, ◌%◌, ◌^◌, ◌≤◌, ◌<◌, min, max}
use native.Mathlib.Decide.{ℕ_discrete}
use native.Mathlib.Omega.{arith}
use native.Mathlib.Nat.{zero-div, pow-suc, pow-le-pow_right, div-eq_of_lt}
use lib.Arith.{digits_mod, lt-one}
use lib.Bits.{bit_and, bit_or, bit_xor, differ, and_shr, and_step, or_shr, or_step, xor_shr, xor_step, xor_add_and, and_mask}
use lib.Dec.{eqb}
use lib.ListN.{length, get_or, set}
use lib.Seq.{get_or-set_same, get_or-set_other}
use lib.Pow.{high, low, ones_split, ones_lt, shr-shr, pow_pos}
use Rattle.papers.specs.Tests.{◌and◌, ◌or◌}
use Rattle.model.specs.Sets.{has, complement, same_flag}
use Rattle.lanes.specs.Lanes.{lane_bit, lane, NoneBeyond, KeptFrom, Written}
use Rattle.lanes.specs.Words.{other_word, Laned, total}
use Rattle.model.proofs.SetLaws.{length_set_of, has_set_of, length_complement, has_complement, set_ext}

-- ---- a bit as a number

unfoldable bit : ℕ → ℕ → ℕ
bit l w = w / 2 ^ l % 2

bit_lt : (l w : ℕ) → bit l w < 2
unfolding bit
bit_lt l w = omega arith

in_bit : (l w : ℕ) → lane_bit l w ≡ eqb (bit l w) 1
unfolding lane_bit bit
in_bit l w = refl

bit_and_lem : (l a b : ℕ) → bit l (bit_and a b) ≡ min (bit l a) (bit l b)
unfolding bit
bit_and_lem l a b =
    ap (λ (x : ℕ). x % 2) (and_shr a b l ∙ and_step (a / 2 ^ l) (b / 2 ^ l))
    ∙ digits_mod (bit_and (a / 2 ^ l / 2) (b / 2 ^ l / 2)) {m = 2} {r = min (a / 2 ^ l % 2) (b / 2 ^ l % 2)} (omega arith)

bit_or_lem : (l a b : ℕ) → bit l (bit_or a b) ≡ max (bit l a) (bit l b)
unfolding bit
bit_or_lem l a b =
    ap (λ (x : ℕ). x % 2) (or_shr a b l ∙ or_step (a / 2 ^ l) (b / 2 ^ l))
    ∙ digits_mod (bit_or (a / 2 ^ l / 2) (b / 2 ^ l / 2)) {m = 2} {r = max (a / 2 ^ l % 2) (b / 2 ^ l % 2)} (omega arith)

differ_lt : (a b : ℕ) → a < 2 → b < 2 → differ a b < 2
differ_lt zero b h k = k
differ_lt (suc zero) zero h k = h
differ_lt (suc zero) (suc b) h k = omega arith
differ_lt (suc (suc a)) b h k = absurd (omega arith)

bit_xor_lem : (l a b : ℕ) → bit l (bit_xor a b) ≡ differ (bit l a) (bit l b)
unfolding bit
bit_xor_lem l a b =
    ap (λ (x : ℕ). x % 2) (xor_shr a b l ∙ xor_step (a / 2 ^ l) (b / 2 ^ l))
    ∙ digits_mod (bit_xor (a / 2 ^ l / 2) (b / 2 ^ l / 2)) {m = 2} {r = differ (a / 2 ^ l % 2) (b / 2 ^ l % 2)}
    (differ_lt (a / 2 ^ l % 2) (b / 2 ^ l % 2) (omega arith) (omega arith))

bit_ones : (k m : ℕ) → bit k (2 ^ (m + 1 + k) - 1) ≡ 1
unfolding bit
bit_ones k m =
    ap (λ (x : ℕ). x / 2 ^ k % 2) (ones_split (m + 1) k)
    ∙ ap (λ (x : ℕ). x % 2) (high (2 ^ (m + 1) - 1) k (ones_lt k))
    ∙ ap (λ (x : ℕ). x % 2) (ones_split m 1)
    ∙ low (2 ^ m - 1) 1 {lo = 1} (omega arith)

bit_full : (l : ℕ) → l < 64 → bit l 18446744073709551615 ≡ 1
bit_full l h = let e : 63 - l + 1 + l ≡ 64 = omega arith in subst (λ (n : ℕ). bit l (2 ^ n - 1) ≡ 1) e (bit_ones l (63 - l))

-- ---- in a lane

module _ (l a b : ℕ) where
  pub lane_and : lane_bit l (bit_and a b) ≡ (lane_bit l a and lane_bit l b)
  unfolding lane_bit bit ◌and◌
  lane_and = ap (λ (x : ℕ). eqb x 1) (bit_and_lem l a b) ∙ go (bit l a) (bit l b) (bit_lt l a) (bit_lt l b) where
    go : (x y : ℕ) → x < 2 → y < 2 → eqb (min x y) 1 ≡ (eqb x 1 and eqb y 1)
    go zero zero h k = refl
    go zero (suc zero) h k = refl
    go zero (suc (suc y)) h k = absurd (omega arith)
    go (suc zero) zero h k = refl
    go (suc zero) (suc zero) h k = refl
    go (suc zero) (suc (suc y)) h k = absurd (omega arith)
    go (suc (suc x)) y h k = absurd (omega arith)

  pub lane_or : lane_bit l (bit_or a b) ≡ (lane_bit l a or lane_bit l b)
  unfolding lane_bit bit ◌or◌
  lane_or = ap (λ (x : ℕ). eqb x 1) (bit_or_lem l a b) ∙ go (bit l a) (bit l b) (bit_lt l a) (bit_lt l b) where
    go : (x y : ℕ) → x < 2 → y < 2 → eqb (max x y) 1 ≡ (eqb x 1 or eqb y 1)
    go zero zero h k = refl
    go zero (suc zero) h k = refl
    go zero (suc (suc y)) h k = absurd (omega arith)
    go (suc zero) zero h k = refl
    go (suc zero) (suc zero) h k = refl
    go (suc zero) (suc (suc y)) h k = absurd (omega arith)
    go (suc (suc x)) y h k = absurd (omega arith)

-- Where two words differ.
differ_flags : (a b : ℕ) → a < 2 → b < 2 → eqb (differ a b) 1 ≡ not (same_flag (eqb a 1) (eqb b 1))
unfolding same_flag
differ_flags zero zero h k = refl
differ_flags zero (suc zero) h k = refl
differ_flags zero (suc (suc b)) h k = absurd (omega arith)
differ_flags (suc zero) zero h k = refl
differ_flags (suc zero) (suc zero) h k = refl
differ_flags (suc zero) (suc (suc b)) h k = absurd (omega arith)
differ_flags (suc (suc a)) b h k = absurd (omega arith)

pub lane_xor : (l a b : ℕ) → lane_bit l (bit_xor a b) ≡ not (same_flag (lane_bit l a) (lane_bit l b))
lane_xor l a b = rw (in_bit, in_bit, in_bit, bit_xor_lem) (differ_flags (bit l a) (bit l b) (bit_lt l a) (bit_lt l b))

pub lane_full : (l : ℕ) → l < 64 → lane_bit l 18446744073709551615 ≡ true
lane_full l h = in_bit l 18446744073709551615 ∙ rw (bit_full l h)

pub lane_none : (l : ℕ) → lane_bit l 0 ≡ false
unfolding lane_bit
lane_none l = ap (λ (x : ℕ). eqb (x % 2) 1) (zero-div (2 ^ l))

-- The lanes of 2 ^ end - 1 are those below `end`.
pub lane_ones : (l end : ℕ) → l < end → lane_bit l (2 ^ end - 1) ≡ true
lane_ones l end h =
    let e : end - suc l + 1 + l ≡ end = omega arith in
    in_bit l (2 ^ end - 1) ∙ ap (λ (x : ℕ). eqb x 1) (subst (λ (n : ℕ). bit l (2 ^ n - 1) ≡ 1) e (bit_ones l (end - suc l)))

pub lane_past : (l end : ℕ) → end ≤ l → lane_bit l (2 ^ end - 1) ≡ false
unfolding lane_bit
lane_past l end h =
    let p : 2 ^ end ≤ 2 ^ l = pow-le-pow_right {n = 2} (omega arith) {i = end} {j = l} h in
    let small : 2 ^ end - 1 < 2 ^ l = omega (arith, pow_pos l) in
    ap (λ (x : ℕ). eqb (x % 2) 1) (div-eq_of_lt small)

-- `!x` is what x lacks of the full word.
pub lane_not : (l x : ℕ) → l < 64 → x < 18446744073709551616 → lane_bit l (18446744073709551615 - x) ≡ not (lane_bit l x)
unfolding lane_bit bit
lane_not l x h k =
    let m : bit_and x 18446744073709551615 ≡ x % 18446744073709551616 = and_mask x 64 in
    let e : 18446744073709551615 - x ≡ bit_xor x 18446744073709551615 = omega (arith, xor_add_and x 18446744073709551615) in
    let f : bit l (18446744073709551615 - x) ≡ differ (bit l x) 1 =
    ap (bit l) e ∙ bit_xor_lem l x 18446744073709551615 ∙ ap (differ (bit l x)) (bit_full l h) in
    ap (λ (y : ℕ). eqb y 1) f ∙ go (bit l x) (bit_lt l x) where
      go : (y : ℕ) → y < 2 → eqb (differ y 1) 1 ≡ not (eqb y 1)
      go zero h = refl
      go (suc zero) h = refl
      go (suc (suc y)) h = absurd (omega arith)

-- ---- words with the same bits

bit_suc : (l x : ℕ) → bit (suc l) x ≡ bit l (x / 2)
unfolding bit
bit_suc l x = let e : suc l ≡ 1 + l = omega arith in ap (λ (n : ℕ). x / 2 ^ n % 2) e ∙ ap (λ (y : ℕ). y % 2) (sym (shr-shr x 1 l))

lowest : (x : ℕ) → x % 2 ≡ bit 0 x
unfolding bit
lowest x = omega arith

bits_same : (n a b : ℕ) → a < 2 ^ n → b < 2 ^ n → ((l : ℕ) → l < n → bit l a ≡ bit l b) → a ≡ b
bits_same zero a b h k e = lt-one h ∙ sym (lt-one k)
bits_same (suc n) a b h k e =
    let p = pow-suc 2 n in
    let high : a / 2 ≡ b / 2 =
    bits_same n (a / 2) (b / 2) (omega arith) (omega arith) (λ l m. sym (bit_suc l a) ∙ e (suc l) (omega arith) ∙ bit_suc l b) in
    let low : a % 2 ≡ b % 2 = lowest a ∙ e 0 (omega arith) ∙ sym (lowest b) in
    omega arith

same_flag_lem : (x y : ℕ) → x < 2 → y < 2 → eqb x 1 ≡ eqb y 1 → x ≡ y
same_flag_lem zero zero h k e = refl
same_flag_lem zero (suc zero) h k e = absurd (true≢false cc)
same_flag_lem zero (suc (suc y)) h k e = absurd (omega arith)
same_flag_lem (suc zero) zero h k e = absurd (true≢false cc)
same_flag_lem (suc zero) (suc zero) h k e = refl
same_flag_lem (suc zero) (suc (suc y)) h k e = absurd (omega arith)
same_flag_lem (suc (suc x)) y h k e = absurd (omega arith)

pub words_same : (a b : ℕ) → a < 2 ^ 64 → b < 2 ^ 64 → ((l : ℕ) → l < 64 → lane_bit l a ≡ lane_bit l b) → a ≡ b
words_same a b h k e =
    bits_same 64 a b h k
    (λ l m. same_flag_lem (bit l a) (bit l b) (bit_lt l a) (bit_lt l b) (sym (in_bit l a) ∙ e l m ∙ in_bit l b))

-- ---- the set of a lane

pub sized : (n l : ℕ) (words : List ℕ) → length (lane n l words) ≡ n
unfolding lane
sized n l words = length_set_of _ n

pub has_lane : (n l o : ℕ) (words : List ℕ) → o < n → has (lane n l words) o ≡ lane_bit l (get_or words o 0)
unfolding lane
has_lane n l o words h = has_set_of _ n o h

-- ---- the words that a loop has written

pub written_none : (word : ℕ → ℕ) (before : List ℕ) → Written 0 word before before
written_none word before = record { at = λ o h. absurd (omega arith); beyond = record { at = λ o h. refl } }

pub written_more : (word : ℕ → ℕ) (o : ℕ) (before after : List ℕ) → o < length after → Written o word before after
    → Written (o + 1) word before (set after o (word o))
written_more word o before after h w = record {
  at = λ j k. elim (ℕ_discrete j o) [
    | yes e ↦ rw e (get_or-set_same after o (word o) 0 h)
    | no e ↦ get_or-set_other after o j (word o) 0 e ∙ w.at j (omega arith)
  ];
  beyond = record { at = λ j k. get_or-set_other after o j (word o) 0 (λ e. absurd (omega arith)) ∙ w.beyond.at j (omega arith) };
}

-- No lane was set past the first n words, and none is.
pub kept_none : {n : ℕ} {before after : List ℕ} → KeptFrom n before after → NoneBeyond n before → NoneBeyond n after
kept_none k z = record { at = λ o h. k.at o h ∙ z.at o h }

-- The first words with their other lanes are the other literals, in each lane.
pub complement_lane : (n l : ℕ) (words before after : List ℕ) → l < 64 → Laned words → Written n (other_word words) before after
    → lane n l after ≡ complement n (lane n l words)
unfolding other_word
complement_lane n l words before after h w c =
    set_ext n (lane n l after) (complement n (lane n l words)) (sized n l after) (length_complement n (lane n l words)) (λ o k.
    has_lane n l o after k
    ∙ ap (lane_bit l) (c.at o k)
    ∙ lane_not l (get_or words o 0) h (w.fits o)
    ∙ ap not (sym (has_lane n l o words k))
    ∙ sym (has_complement n (lane n l words) o k))

-- Words that are the same from the first to the n-th are the same set, in each lane.
pub lane_same : (n l : ℕ) (words after : List ℕ) → ((o : ℕ) → o < n → get_or after o 0 ≡ get_or words o 0) → lane n l after ≡ lane n l words
lane_same n l words after e =
    set_ext n (lane n l after) (lane n l words) (sized n l after) (sized n l words) (λ o k.
    has_lane n l o after k ∙ ap (lane_bit l) (e o k) ∙ sym (has_lane n l o words k))

-- ---- the sum of the words

pub total_set : (words : List ℕ) (o x : ℕ) → o < length words → total (set words o x) + get_or words o 0 ≡ total words + x
unfolding total
total_set [] o x h = omega arith
total_set (w ∷ more) zero x h = omega arith
total_set (w ∷ more) (suc o) x h = omega (arith, total_set more o x (omega arith))
