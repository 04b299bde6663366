-- The lanes kept fault by fault, and the rounds of those that agree, lane by lane.
-- Assumes nothing.
use mathlib.Core.Path.{◌≡◌, sym, ap, ap₂, ◌∙◌}
use mathlib.Core.Bool.{Bool, true, false, cond}
use mathlib.Core.List.{List}
use Prim.Native.Nat.{ℕ, ◌+◌, ◌/◌, ◌%◌, ◌^◌, ◌<◌, ◌≤◌}
use native.Mathlib.Numerals.{add-one}
use native.Mathlib.Decide.{ℕ_discrete}
use native.Mathlib.Omega.{arith}
use lib.Bits.{bit_and}
use lib.Dec.{eqb, eqb→eq}
use lib.ListN.{length, get_or, set, replicate, length-set, length-replicate, get_or-replicate}
use Rattle.papers.specs.Tests.{◌and◌, ◌or◌}
use Rattle.papers.proofs.TestLaws.{left, right, passes, and_true, and_assoc}
use Rattle.lanes.specs.Lanes.{lane_bit, Written}
use Rattle.lanes.proofs.LaneLaws.{lane_and, lane_full, written_none, written_more}
use Rattle.digits.specs.Digits.{DigitLanes}
use Rattle.held.specs.declared.Masks.{Masks}
use Rattle.held.specs.Masks.{keeps, agrees_at, agrees}
use Rattle.held.proofs.HeldLaws.{none_agrees}
use Rattle.agreeing.specs.AgreeingLanes.{AgreeingLanes, KeptLanes, AgreeingRounds}

-- ---- the lanes kept at one fault

module _ {base power : ℕ} where
  -- By one mask: where it holds the fault the lanes of its digit, else all.
  kept_digit : (held : Bool) (digit word lanes l : ℕ) → l < 64 → DigitLanes base power digit lanes
      → lane_bit l (cond held (bit_and word lanes) word) ≡ (lane_bit l word and keeps held digit ((base + l) / power % 3))
  unfolding keeps ◌or◌
  kept_digit true digit word lanes l h d = lane_and l word lanes ∙ ap (λ (b : Bool). lane_bit l word and b) (d.at l h)
  kept_digit false digit word lanes l h d = sym (and_true (lane_bit l word))

  -- By both.
  pub kept_both : {word one two middle after : ℕ} {assumed ruled : Bool} → DigitLanes base power 1 one → DigitLanes base power 2 two
      → middle ≡ cond assumed (bit_and word one) word → after ≡ cond ruled (bit_and middle two) middle → KeptLanes base power assumed ruled word after
  kept_both {word} {one} {two} {middle} {after} {assumed} {ruled} o t e f = record {
    at = λ l h.
        let d = (base + l) / power % 3 in
        ap (lane_bit l) f
        ∙ kept_digit ruled 2 middle two l h t
        ∙ ap (λ (b : Bool). b and keeps ruled 2 d) (ap (lane_bit l) e ∙ kept_digit assumed 1 word one l h o)
        ∙ and_assoc (lane_bit l word) (keeps assumed 1 d) (keeps ruled 2 d);
  }

  -- A fault that is not held.
  pub kept_free : {word : ℕ} {assumed ruled : Bool} → assumed ≡ false → ruled ≡ false → KeptLanes base power assumed ruled word word
  unfolding keeps ◌and◌ ◌or◌
  kept_free {word} e f = record { at = λ l h. rw (e, f) (sym (and_true (lane_bit l word))) }

-- ---- no fault

pub free_agrees : (k : ℕ) (m : Masks) (s : ℕ) → (eqb m.assumed 0 and eqb m.ruled 0) ≡ true → agrees k m s ≡ true
free_agrees k m s e =
    let t = passes (eqb m.assumed 0 and eqb m.ruled 0) e in
    none_agrees k m s (eqb→eq m.assumed 0 (left (eqb m.assumed 0) _ t)) (eqb→eq m.ruled 0 (right (eqb m.assumed 0) _ t))

-- ---- one fault after another

-- Of none: every lane agrees.
pub agreeing_none : (m : Masks) (base : ℕ) → AgreeingLanes 0 m base 18446744073709551615
unfolding agrees
agreeing_none m base = record { at = λ l h. lane_full l h }

-- Where no fault is held too.
pub agreeing_free : (k : ℕ) (m : Masks) (base : ℕ) → (eqb m.assumed 0 and eqb m.ruled 0) ≡ true → AgreeingLanes k m base 18446744073709551615
agreeing_free k m base e = record { at = λ l h. lane_full l h ∙ sym (free_agrees k m (base + l) e) }

-- Of one more.
pub agreeing_next : {i : ℕ} {m : Masks} {base power word after : ℕ} {one two : Bool} → AgreeingLanes i m base word → power ≡ 3 ^ i
    → one ≡ lane_bit i m.assumed → two ≡ lane_bit i m.ruled → KeptLanes base power one two word after → AgreeingLanes (i + 1) m base after
unfolding agrees agrees_at
agreeing_next {i} {m} {base} {power} {word} {after} {one} {two} so_far p e f k = record {
  at = λ l h.
      let s = base + l in
      k.at l h
      ∙ ap₂ (λ (b : Bool) (n : ℕ). b and (keeps one 1 (s / n % 3) and keeps two 2 (s / n % 3))) (so_far.at l h) p
      ∙ ap₂ (λ (a b : Bool). agrees i m s and (keeps a 1 (s / 3 ^ i % 3) and keeps b 2 (s / 3 ^ i % 3))) e f
      ∙ ap (λ (n : ℕ). agrees n m s) (sym (add-one i));
}

-- ---- the rounds

-- What a lane is to have.
unfoldable pub rounds_in : ℕ → List ℕ → ℕ → ℕ
rounds_in word rounds l = cond (lane_bit l word) (get_or rounds l 0) 0

-- The lanes below this one have theirs.
pub record RoundsBelow (l word : ℕ) (rounds after : List ℕ) : Type 0 where
  pub size : length after ≡ 64
  pub done : Written l (rounds_in word rounds) (replicate 64 0) after

pub rounds_none : (word : ℕ) (rounds : List ℕ) → RoundsBelow 0 word rounds (replicate 64 0)
rounds_none word rounds = record { size = length-replicate {A = ℕ} 64 0; done = written_none (rounds_in word rounds) (replicate 64 0) }

rounds_next : {l word own : ℕ} {rounds after : List ℕ} → RoundsBelow l word rounds after → l < 64 → own ≡ rounds_in word rounds l
    → RoundsBelow (l + 1) word rounds (set after l own)
rounds_next {l} {word} {own} {rounds} {after} b h e = record {
  size = length-set after l own ∙ b.size;
  done = rw e (written_more (rounds_in word rounds) l (replicate 64 0) after (omega (arith, b.size)) b.done);
}

pub rounds_kept : {l word : ℕ} {rounds after : List ℕ} → RoundsBelow l word rounds after → l < 64 → lane_bit l word ≡ true
    → RoundsBelow (l + 1) word rounds (set after l (get_or rounds l 0))
unfolding rounds_in
rounds_kept b h e = rounds_next b h (rw e)

pub rounds_left : {l word : ℕ} {rounds after : List ℕ} → RoundsBelow l word rounds after → l < 64 → lane_bit l word ≡ false
    → RoundsBelow (l + 1) word rounds after
unfolding rounds_in
rounds_left {l} {word} {rounds} {after} b h e = record {
  size = b.size;
  done = record {
    at = λ o g. elim (ℕ_discrete o l) [
      | yes q ↦ rw (q, e) (b.done.beyond.at l (omega arith) ∙ get_or-replicate 64 l 0 0 h)
      | no n ↦ b.done.at o (omega arith)
    ];
    beyond = record { at = λ o g. b.done.beyond.at o (omega arith) };
  };
}

pub rounds_all : {l word : ℕ} {rounds after : List ℕ} → RoundsBelow l word rounds after → 64 ≤ l → AgreeingRounds word rounds after
unfolding rounds_in
rounds_all b h = record { at = λ o g. b.done.at o (omega arith) }
