-- Tests 15 and 16 as code makes them: `assumed & ruled` is not 0; `assumed | ruled` shifted down by k is not 0.
-- Assumes nothing.
use mathlib.Core.Path.{◌≡◌, sym, ap, subst, ◌∙◌}
use mathlib.Core.Bool.{Bool, false, not}
use mathlib.Core.Logic.{inl, inr}
use Prim.Native.Nat.{ℕ, ◌+◌, ◌-◌, ◌/◌, ◌%◌, ◌^◌, ◌<◌, ◌≤◌}
use native.Mathlib.Omega.{arith}
use native.Mathlib.Nat.{div-eq_of_lt, div-le_self}
use native.Mathlib.Decide.{dec_lt}
use borrow.Author.Tests.{eq-eqb, ne_eqb}
use lib.Bits.{bit_and, bit_or, and_le_l}
use lib.Dec.{T, T_not, eqb, leb, leb→le, le→leb}
use lib.Pow.{pow_mono, shr-shr}
use Rattle.std.specs.Prelude.{Ok, Err}
use Rattle.std.proofs.lemmas.Nat.{or_of_16}
use Rattle.papers.specs.Tests.{◌or◌}
use Rattle.papers.proofs.TestLaws.{both, left, right, decided, same_tests, is_false, not_equal, differs}
use Rattle.lanes.specs.Lanes.{lane_bit}
use Rattle.lanes.proofs.LaneLaws.{lane_and, lane_or, lane_none, words_same}
use Rattle.steps.specs.Explanations.{some_below}
use Rattle.steps.proofs.Minimality.{some_here, some_where}
use Rattle.held.specs.declared.MaskFault.TheVariants.{SharedBit, UnlistedBit}
use Rattle.held.specs.Masks.{Masks, shared_at, share, unlisted_at, unlisted, masks_tested}

-- A 16-bit number has no bit from 16 on.
high_none : (x l : ℕ) → x < 65536 → 16 ≤ l → lane_bit l x ≡ false
unfolding lane_bit
high_none x l h g =
    let m : 2 ^ 16 ≤ 2 ^ l = pow_mono g in
    let z : x / 2 ^ l ≡ 0 = div-eq_of_lt (omega arith) in
    rw z

-- One with no bit below 16 is 0.
none_set : (x : ℕ) → x < 65536 → ((l : ℕ) → l < 16 → lane_bit l x ≡ false) → x ≡ 0
none_set x h e =
    words_same x 0 (omega arith) (omega arith) (λ l g. elim (dec_lt l 16) [
      | yes s ↦ e l s ∙ sym (lane_none l)
      | no s ↦ high_none x l h (omega arith) ∙ sym (lane_none l)
    ])

no_some : (n : ℕ) (test : ℕ → Bool) → some_below n test ≡ false → (l : ℕ) → l < n → test l ≡ false
no_some n test e l h = is_false (test l) (λ t. subst T e (some_here n test l h t))

-- ---- 15

share_is : (m : Masks) → m.assumed < 65536 → share m ≡ not (eqb (bit_and m.assumed m.ruled) 0)
unfolding share shared_at
share_is m h = same_tests (share m) (not (eqb both_bits 0)) to from
  where
    both_bits : ℕ
    both_bits = bit_and m.assumed m.ruled

    to : T (share m) → T (not (eqb both_bits 0))
    to t =
        let w = some_where 16 (shared_at m) t in
        let i = w.0 in
        not_equal both_bits 0 (λ z. subst T (sym (lane_and i m.assumed m.ruled) ∙ ap (lane_bit i) z ∙ lane_none i) w.2)

    from : T (not (eqb both_bits 0)) → T (share m)
    from t = elim (decided (share m)) [
      | inl y ↦ y
      | inr n ↦ (
          let le = and_le_l m.assumed m.ruled in
          let e = is_false (share m) (T_not (share m) n) in
          let at : (l : ℕ) → l < 16 → lane_bit l both_bits ≡ false = λ l g. lane_and l m.assumed m.ruled ∙ no_some 16 (shared_at m) e l g in
          absurd (differs both_bits 0 t (none_set both_bits (omega arith) at)))
    ]

-- ---- 16

shifted : (k j x : ℕ) → lane_bit j (x / 2 ^ k) ≡ lane_bit (k + j) x
unfolding lane_bit
shifted k j x = ap (λ (y : ℕ). eqb (y % 2) 1) (shr-shr x k j)

-- The mask shifted down by k is not 0.
above : ℕ → ℕ → Bool
above k x = not (eqb (x / 2 ^ k) 0)

bit_above : (k i x : ℕ) → k ≤ i → T (lane_bit i x) → T (above k x)
unfolding above
bit_above k i x h t =
    let e : k + (i - k) ≡ i = omega arith in
    let bit : lane_bit i x ≡ lane_bit (i - k) (x / 2 ^ k) = ap (λ (n : ℕ). lane_bit n x) (sym e) ∙ sym (shifted k (i - k) x) in
    not_equal (x / 2 ^ k) 0 (λ z. subst T (bit ∙ ap (lane_bit (i - k)) z ∙ lane_none (i - k)) t)

none_above : (k x : ℕ) → x < 65536 → ((i : ℕ) → k ≤ i → i < 16 → T (lane_bit i x) → ⊥) → T (above k x) → ⊥
unfolding above
none_above k x h e t =
    let l = div-le_self x (2 ^ k) in
    differs (x / 2 ^ k) 0 t (none_set (x / 2 ^ k) (omega arith) (λ j g. shifted k j x ∙ elim (dec_lt (k + j) 16) [
      | yes s ↦ is_false (lane_bit (k + j) x) (e (k + j) (omega arith) s)
      | no s ↦ high_none x (k + j) h (omega arith)
    ]))

unlisted_is : (k : ℕ) (m : Masks) (bits : ℕ) → bits ≡ bit_or m.assumed m.ruled → m.assumed < 65536 → m.ruled < 65536
    → unlisted k m ≡ above k bits
unfolding unlisted unlisted_at
unlisted_is k m bits is ha hr = same_tests (unlisted k m) (above k bits) to from
  where
    few : bits < 65536
    few = rw is (or_of_16 m.assumed m.ruled ha hr)

    either_is : (i : ℕ) → lane_bit i bits ≡ (lane_bit i m.assumed or lane_bit i m.ruled)
    either_is i = ap (lane_bit i) is ∙ lane_or i m.assumed m.ruled

    to : T (unlisted k m) → T (above k bits)
    to t =
        let w = some_where 16 (unlisted_at k m) t in
        let i = w.0 in
        bit_above k i bits (leb→le k i (left (leb k i) _ w.2)) (subst T (sym (either_is i)) (right (leb k i) _ w.2))

    listed : T (not (unlisted k m)) → (i : ℕ) → k ≤ i → i < 16 → T (lane_bit i bits) → ⊥
    listed n i h l t =
        T_not (unlisted k m) n (some_here 16 (unlisted_at k m) i l (both (leb k i) _ (le→leb k i h) (subst T (either_is i) t)))

    from : T (above k bits) → T (unlisted k m)
    from t = elim (decided (unlisted k m)) [
      | inl y ↦ y
      | inr n ↦ absurd (none_above k bits few (listed n) t)
    ]

-- ---- by the first test that fails

module _ (k : ℕ) (m : Masks) (ha : m.assumed < 65536) where
  pub tested_shared : (bit_and m.assumed m.ruled ≡ 0 → ⊥) → masks_tested k m ≡ Err SharedBit
  unfolding masks_tested
  tested_shared n = rw (share_is m ha, ne_eqb (bit_and m.assumed m.ruled) 0 n)

  module _ (apart : bit_and m.assumed m.ruled ≡ 0) {bits : ℕ} (is : bits ≡ bit_or m.assumed m.ruled) (hr : m.ruled < 65536) where
    pub tested_unlisted : (bits / 2 ^ k ≡ 0 → ⊥) → masks_tested k m ≡ Err UnlistedBit
    unfolding masks_tested above
    tested_unlisted n =
        rw (share_is m ha, eq-eqb (bit_and m.assumed m.ruled) 0 apart, unlisted_is k m bits is ha hr, ne_eqb (bits / 2 ^ k) 0 n)

    pub tested_passed : bits / 2 ^ k ≡ 0 → masks_tested k m ≡ Ok tt
    unfolding masks_tested above
    tested_passed f = rw (share_is m ha, eq-eqb (bit_and m.assumed m.ruled) 0 apart, unlisted_is k m bits is ha hr, eq-eqb (bits / 2 ^ k) 0 f)
