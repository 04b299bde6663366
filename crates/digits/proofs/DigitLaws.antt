-- The lanes of a digit, as the loop over the runs of one digit meets them.
-- Assumes nothing.
use mathlib.Core.Path.{◌≡◌, refl, sym, ap, ◌∙◌}
use mathlib.Core.Bool.{Bool, true, false, not, cond}
use Prim.Native.Nat.{ℕ, ◌+◌, ◌-◌, ◌*◌, ◌/◌, ◌%◌, ◌^◌, ◌≤◌, ◌<◌}
use native.Mathlib.Decide.{dec_lt}
use native.Mathlib.Nat.{add-mul, mod-lt, mod-eq_of_lt, div-add-mod', one-mul}
use native.Mathlib.Omega.{arith}
use borrow.Author.Tests.{lt-ltb, le-ltb}
use lib.Arith.{digits_div}
use lib.Bits.{bit_and, bit_or}
use lib.Dec.{eqb}
use lib.Pow.{pow-lt, pow_pos}
use Rattle.papers.specs.Tests.{◌and◌, ◌or◌}
use Rattle.lanes.specs.Lanes.{lane_bit}
use Rattle.digits.specs.Digits.{LanesBelow, RunLanes, DigitLanes}
use Rattle.lanes.proofs.LaneLaws.{lane_and, lane_or, lane_not, lane_none, lane_full, lane_ones, lane_past}

-- ---- the lanes of a run

module _ (end : ℕ) (h : end < 64) where
  -- 1 << end
  shifted : 1 * 2 ^ end % 18446744073709551616 ≡ 2 ^ end
  shifted = ap (λ (y : ℕ). y % 18446744073709551616) (one-mul (2 ^ end)) ∙ mod-eq_of_lt (pow-lt h)

  pub shifted_some : 1 ≤ 1 * 2 ^ end % 18446744073709551616
  shifted_some = rw shifted (pow_pos end)

  pub below_some : LanesBelow end (1 * 2 ^ end % 18446744073709551616 - 1)
  below_some = record {
    at = λ l k. elim (dec_lt l end) [
      | yes m ↦ rw (shifted, lt-ltb l end m) (lane_ones l end m)
      | no m ↦ rw (shifted, le-ltb l end (omega arith)) (lane_past l end (omega arith))
    ];
  }

pub below_all : (end : ℕ) → 64 ≤ end → LanesBelow end 18446744073709551615
below_all end h = record { at = λ l k. lane_full l k ∙ sym (lt-ltb l end (omega arith)) }

pub run_between : (first end below upto : ℕ) → below < 18446744073709551616 → LanesBelow first below → LanesBelow end upto
    → RunLanes first end (bit_and upto (18446744073709551615 - below))
run_between first end below upto fits f e = record {
  at = λ l h. rw (lane_and l upto (18446744073709551615 - below), lane_not l below h fits, f.at l h, e.at l h);
}

-- ---- a word over the runs

-- The lanes below this one are set by their digit, the others not yet.
pub record Laned (base power digit word lane : ℕ) : Type 0 where
  pub below : (l : ℕ) → l < 64 → l < lane → lane_bit l word ≡ eqb ((base + l) / power % 3) digit
  pub rest : (l : ℕ) → l < 64 → lane ≤ l → lane_bit l word ≡ false

laned_none : (base power digit : ℕ) → Laned base power digit 0 0
laned_none base power digit = record { below = λ l k h. absurd (omega arith); rest = λ l k h. lane_none l }

-- One lane of a word that is joined with another where a test holds.
joined_lane : (l w r : ℕ) (test : Bool) → lane_bit l (cond test (bit_or w r) w) ≡ (lane_bit l w or (test and lane_bit l r))
unfolding ◌and◌ ◌or◌
joined_lane l w r true = lane_or l w r
joined_lane l w r false = go (lane_bit l w) where
  go : (b : Bool) → b ≡ (b or false)
  go true = refl
  go false = refl

-- Before the run, in it and after it.
join_before : (w test : Bool) → (w or (test and (true and not true))) ≡ w
unfolding ◌and◌ ◌or◌
join_before true test = refl
join_before false true = refl
join_before false false = refl

join_within : (test : Bool) → (false or (test and (true and not false))) ≡ test
unfolding ◌and◌ ◌or◌
join_within true = refl
join_within false = refl

join_after : (test : Bool) → (false or (test and (false and not false))) ≡ false
unfolding ◌and◌ ◌or◌
join_after true = refl
join_after false = refl

laned_run : (base power digit word lane end run at : ℕ) → lane ≤ end → ((l : ℕ) → lane ≤ l → l < end → (base + l) / power % 3 ≡ at)
    → Laned base power digit word lane → RunLanes lane end run → Laned base power digit (cond (eqb at digit) (bit_or word run) word) end
laned_run base power digit word lane end run at up same w r = record {
  below = λ l k h. elim (dec_lt l lane) [
    | yes m ↦
        joined_lane l word run (eqb at digit)
        ∙ rw (r.at l k, lt-ltb l end h, lt-ltb l lane m) (join_before (lane_bit l word) (eqb at digit))
        ∙ w.below l k m
    | no m ↦
        joined_lane l word run (eqb at digit)
        ∙ rw (r.at l k, lt-ltb l end h, le-ltb l lane (omega arith), w.rest l k (omega arith), same l (omega arith) h) (join_within (eqb at digit))
  ];
  rest = λ l k h.
      joined_lane l word run (eqb at digit)
      ∙ rw (r.at l k, le-ltb l end h, le-ltb l lane (omega arith), w.rest l k (omega arith)) (join_after (eqb at digit));
}

laned_all : (base power digit word lane : ℕ) → 64 ≤ lane → Laned base power digit word lane → DigitLanes base power digit word
laned_all base power digit word lane h w = record { at = λ l k. w.below l k (omega arith) }

-- ---- both words, with the digit of the run at hand and how much of it is left

pub record Digits (base power lane digit left assumed ruled : ℕ) : Type 0 where
  pub run : ℕ
  pub ends : base + lane + left ≡ (run + 1) * power
  pub is : digit ≡ run % 3
  pub some : 0 < left
  pub most : left ≤ power
  pub one : Laned base power 1 assumed lane
  pub two : Laned base power 2 ruled lane

pub digits_none : (base power : ℕ) → 0 < power → Digits base power 0 (base / power % 3) (power - base % power) 0 0
digits_none base power h =
    let m = mod-lt base h in
    record {
      run = base / power;
      ends = let next = add-mul (base / power) 1 power in omega (arith, div-add-mod' base power);
      is = refl;
      some = omega arith;
      most = omega arith;
      one = laned_none base power 1;
      two = laned_none base power 2;
    }

module _ {base power lane digit left assumed ruled : ℕ} (w : Digits base power lane digit left assumed ruled) where
  pub digits_small : digit < 3
  digits_small = let is = w.is in omega arith

  -- The scenarios of a run have its digit.
  same_digit : (l : ℕ) → lane ≤ l → l < lane + left → (base + l) / power % 3 ≡ digit
  same_digit l h k =
      let next = add-mul w.run 1 power in
      let ends = w.ends in
      let most = w.most in
      let rest = base + l - w.run * power in
      let e : base + l ≡ w.run * power + rest = omega arith in
      let small : rest < power = omega arith in
      ap (λ (x : ℕ). x / power % 3) e ∙ ap (λ (x : ℕ). x % 3) (digits_div w.run small) ∙ sym w.is

  pub digits_more : {run digit' assumed' ruled' : ℕ} → RunLanes lane (lane + left) run
      → assumed' ≡ cond (eqb digit 1) (bit_or assumed run) assumed → ruled' ≡ cond (eqb digit 2) (bit_or ruled run) ruled
      → digit' ≡ (digit + 1) % 3 → Digits base power (lane + left) digit' power assumed' ruled'
  digits_more {run} r x y z =
      let ends = w.ends in
      let is = w.is in
      let some = w.some in
      let most = w.most in
      record {
        run = w.run + 1;
        ends = let next = add-mul (w.run + 1) 1 power in omega arith;
        is = omega arith;
        some = omega arith;
        most = omega arith;
        one = rw x (laned_run base power 1 assumed lane (lane + left) run digit (omega arith) same_digit w.one r);
        two = rw y (laned_run base power 2 ruled lane (lane + left) run digit (omega arith) same_digit w.two r);
      }

  pub digits_all : 64 ≤ lane → DigitLanes base power 1 assumed × DigitLanes base power 2 ruled
  digits_all h = (laned_all base power 1 assumed lane h w.one, laned_all base power 2 ruled lane h w.two)
