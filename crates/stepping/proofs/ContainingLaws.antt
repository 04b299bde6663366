-- The table of digits, the lanes of an entry and the lanes left by entries, as the loops over digits and entries meet them.
-- Assumes nothing.
use mathlib.Core.Path.{◌≡◌, refl, sym, ap, ◌∙◌}
use mathlib.Core.Bool.{Bool, true, false, not}
use mathlib.Core.List.{List, [], ◌∷◌}
use Prim.Native.Nat.{ℕ, zero, suc, ◌+◌, ◌-◌, ◌/◌, ◌%◌, ◌^◌, ◌<◌, ◌≤◌}
use native.Mathlib.Decide.{ℕ_discrete}
use native.Mathlib.Nat.{div-div-eq-div-mul}
use native.Mathlib.Omega.{arith}
use native.Mathlib.Numerals.{add-one}
use borrow.Author.Tests.{eq-eqb, ne_eqb}
use lib.Bits.{bit_and}
use lib.Dec.{eqb}
use lib.ListN.{length, get_or, drop, drop_of_length-le, set, length-set}
use lib.Seq.{get_or-set_same, get_or-set_other, drop-cons}
use Rattle.digits.proofs.Powers.{power_next}
use Rattle.papers.specs.Tests.{◌and◌, ◌or◌}
use Rattle.papers.proofs.TestLaws.{and_true, and_assoc, false_and}
use Rattle.lanes.specs.Lanes.{lane_bit}
use Rattle.lanes.proofs.LaneLaws.{lane_and, lane_not, lane_full, lane_none}
use Rattle.digits.specs.Digits.{DigitLanes}
use Rattle.steps.specs.Explanations.{part_digit, part_of}
use Rattle.steps.specs.Continuing.{contains_one}
use Rattle.stepping.specs.Containing.{DigitTable, EntryLanes, LanesLeft, NewToFirst}
use Rattle.stepping.proofs.PartLoops.{part_done}

-- ---- the table

-- Digit 0 is contained in any.
zero_digit : (e : ℕ) → part_digit 0 e ≡ true
unfolding part_digit ◌or◌
zero_digit e = refl

-- Another one in itself alone.
other_digit : (d e : ℕ) → (d ≡ 0 → ⊥) → part_digit d e ≡ eqb e d
unfolding part_digit ◌or◌
other_digit d e z = elim (ℕ_discrete e d) [
  | yes q ↦ rw (ne_eqb d 0 z, eq-eqb d e (sym q), eq-eqb e d q)
  | no q ↦ rw (ne_eqb d 0 z, ne_eqb d e (λ r. q (sym r)), ne_eqb e d q)
]

-- The first i digits have their words.
pub record Tabled (i base : ℕ) (table : List (List ℕ)) : Type 0 where
  pub size : length table ≡ 16
  pub done : DigitTable i base table

module _ (i base : ℕ) (table : List (List ℕ)) (few : i < 16) (so_far : Tabled i base table) {power : ℕ} (raised : power ≡ 3 ^ i) (assumed ruled : ℕ)
    (one : DigitLanes base power 1 assumed) (two : DigitLanes base power 2 ruled) where
  abbrev row : List ℕ
  row = 18446744073709551615 ∷ assumed ∷ ruled ∷ []

  here : (d l : ℕ) → d < 3 → l < 64 → lane_bit l (get_or row d 0) ≡ part_digit d ((base + l) / 3 ^ i % 3)
  here zero l h k = lane_full l k ∙ sym (zero_digit ((base + l) / 3 ^ i % 3))
  here (suc zero) l h k =
      one.at l k ∙ ap (λ (n : ℕ). eqb ((base + l) / n % 3) 1) raised ∙ sym (other_digit 1 ((base + l) / 3 ^ i % 3) (λ e. omega arith))
  here (suc (suc zero)) l h k =
      two.at l k ∙ ap (λ (n : ℕ). eqb ((base + l) / n % 3) 2) raised ∙ sym (other_digit 2 ((base + l) / 3 ^ i % 3) (λ e. omega arith))
  here (suc (suc (suc d))) l h k = absurd (omega arith)

  pub tabled_more : Tabled (i + 1) base (set table i row)
  tabled_more = record {
    size = length-set table i row ∙ so_far.size;
    done = record {
      at = λ j d l h k m. elim (ℕ_discrete j i) [
        | yes e ↦ (
            let size = so_far.size in
            rw e (ap (λ (r : List ℕ). lane_bit l (get_or r d 0)) (get_or-set_same table i row [] (omega arith)) ∙ here d l k m))
        | no n ↦
            ap (λ (r : List ℕ). lane_bit l (get_or r d 0)) (get_or-set_other table i j row [] n) ∙ so_far.done.at j d l (omega arith) k m
      ];
    };
  }

-- ---- the lanes of an entry

-- The lowest digit, and the others.
part_first : (k a b : ℕ) → 0 < k → part_of k a b ≡ (part_digit (a % 3) (b % 3) and part_of (k - 1) (a / 3) (b / 3))
unfolding part_of
part_first zero a b h = absurd (omega arith)
part_first (suc k) a b h =
    let e : suc k - 1 ≡ k = omega arith in
    rw e

-- No assumptions are part of any.
part_zero : (k b : ℕ) → part_of k 0 b ≡ true
unfolding part_of part_digit ◌and◌ ◌or◌
part_zero zero b = refl
part_zero (suc k) b = part_zero k (b / 3)

-- A walk over the digits of an entry: those from the i-th on are left to compare, in the lanes of the word.
pub record EntryTo (k : ℕ) (table : List (List ℕ)) (entry lanes i word rest : ℕ) : Type 0 where
  pub at : (base : ℕ) → DigitTable k base table → (l : ℕ) → l < 64
      → (lane_bit l lanes and part_of k entry (base + l)) ≡ (lane_bit l word and part_of (k - i) rest ((base + l) / 3 ^ i))

module _ (k : ℕ) (table : List (List ℕ)) (entry lanes : ℕ) where
  module _ (i word rest : ℕ) (so_far : EntryTo k table entry lanes i word rest) where
    pub entry_next : i < k → EntryTo k table entry lanes (i + 1) (bit_and word (get_or (get_or table i []) (rest % 3) 0)) (rest / 3)
    entry_next inside = record {
      at = λ base t l h.
          let w = get_or (get_or table i []) (rest % 3) 0 in
          let y = (base + l) / 3 ^ i in
          let others : k - i - 1 ≡ k - (i + 1) = omega arith in
          let next : y / 3 ≡ (base + l) / 3 ^ (i + 1) =
          div-div-eq-div-mul (base + l) (3 ^ i) 3 ∙ ap (λ (n : ℕ). (base + l) / n) (power_next (3 ^ i) i refl)
          in
          so_far.at base t l h
          ∙ ap (λ (b : Bool). lane_bit l word and b) (part_first (k - i) rest y (omega arith))
          ∙ rw (others, next, ← t.at i (rest % 3) l inside (omega arith) h, lane_and l word w)
          (sym (and_assoc (lane_bit l word) (lane_bit l w) (part_of (k - (i + 1)) (rest / 3) ((base + l) / 3 ^ (i + 1)))));
    }

    -- What the lanes left to compare all contain,
    pub entry_contained : ((b : ℕ) → part_of (k - i) rest b ≡ true) → EntryLanes k table entry lanes word
    entry_contained all = record {
      at = λ base t l h.
          sym (so_far.at base t l h ∙ ap (λ (b : Bool). lane_bit l word and b) (all ((base + l) / 3 ^ i)) ∙ and_true (lane_bit l word));
    }

    -- no digit that is not zero,
    pub entry_zero : rest ≡ 0 → EntryLanes k table entry lanes word
    entry_zero e = entry_contained (λ b. rw e (part_zero (k - i) b))

    -- or no digit.
    pub entry_ends : k ≤ i → EntryLanes k table entry lanes word
    entry_ends e = entry_contained (λ b. part_done (k - i) rest b (omega arith))

    -- No lane left.
    pub entry_none : word ≡ 0 → EntryLanes k table entry lanes word
    entry_none e = record {
      at = λ base t l h.
          let clear : lane_bit l word ≡ false = ap (lane_bit l) e ∙ lane_none l in
          clear
          ∙ sym
          (so_far.at base t l h
          ∙ ap (λ (b : Bool). b and part_of (k - i) rest ((base + l) / 3 ^ i)) clear
          ∙ false_and (part_of (k - i) rest ((base + l) / 3 ^ i)));
    }

-- ---- the lanes left by entries

-- A walk over the entries: those of `more` are left to compare, with the lanes left.
pub record LeftTo (k : ℕ) (table : List (List ℕ)) (entries : List ℕ) (lanes : ℕ) (more : List ℕ) (left : ℕ) : Type 0 where
  pub at : (base : ℕ) → DigitTable k base table → (l : ℕ) → l < 64
      → (lane_bit l lanes and not (contains_one k entries (base + l))) ≡ (lane_bit l left and not (contains_one k more (base + l)))

-- What does not contain the first entry and none of the others.
left_by : (a p c : Bool) → (a and not (p or c)) ≡ ((a and not (a and p)) and not c)
unfolding ◌and◌ ◌or◌
left_by true true c = refl
left_by true false c = refl
left_by false p c = refl

module _ (k : ℕ) (table : List (List ℕ)) (entries : List ℕ) (lanes : ℕ) where
  module _ (i left : ℕ) (so_far : LeftTo k table entries lanes (drop i entries) left) where
    pub left_next : i < length entries → (contained : ℕ) → contained < 18446744073709551616 → EntryLanes k table (get_or entries i 0) left contained
        → LeftTo k table entries lanes (drop (i + 1) entries) (bit_and left (18446744073709551615 - contained))
    unfolding contains_one
    left_next inside contained fits one = record {
      at = λ base t l h.
          so_far.at base t l h
          ∙ rw (add-one, drop-cons entries i 0 inside, lane_and l left (18446744073709551615 - contained), lane_not l contained h fits, one.at base t l h)
          (left_by (lane_bit l left) (part_of k (get_or entries i 0) (base + l)) (contains_one k (drop (suc i) entries) (base + l)));
    }

    pub left_ends : length entries ≤ i → LanesLeft k table entries lanes left
    unfolding contains_one
    left_ends e = record {
      without = λ base t. record {
        at = λ l h. sym (so_far.at base t l h ∙ rw (drop_of_length-le entries {i = i} e) (and_true (lane_bit l left)));
      };
    }

    pub left_none : left ≡ 0 → LanesLeft k table entries lanes left
    left_none e = record {
      without = λ base t. record {
        at = λ l h.
            let clear : lane_bit l left ≡ false = ap (lane_bit l) e ∙ lane_none l in
            let more = not (contains_one k (drop i entries) (base + l)) in
            clear ∙ sym (so_far.at base t l h ∙ ap (λ (b : Bool). b and more) clear ∙ false_and more);
      };
    }

-- ---- the explanations that are new

pub new_uncompared : (k base : ℕ) (list : List ℕ) (found explained : ℕ)
    → NewToFirst k base list found explained (record { lanes = explained; entries = 0 })
unfolding contains_one
new_uncompared k base list found explained = record {
  few = omega arith;
  without = record { at = λ l h. sym (and_true (lane_bit l explained)) };
}
