-- The lanes that differ, as the loop over the words meets them.
-- Assumes nothing.
use mathlib.Core.Path.{◌≡◌, refl, sym, ap, ◌∙◌}
use mathlib.Core.Bool.{Bool, true, false, not, true≢false, false≢true}
use mathlib.Core.List.{List}
use Prim.Native.Nat.{ℕ, ◌+◌, ◌<◌}
use native.Mathlib.Decide.{ℕ_discrete}
use native.Mathlib.Omega.{arith}
use lib.Bits.{bit_or, bit_xor}
use lib.ListN.{get_or}
use Rattle.papers.specs.Tests.{◌or◌}
use Rattle.model.specs.Sets.{has, same_flag}
use Rattle.lanes.specs.Lanes.{lane_bit, lane, Changed}
use Rattle.model.proofs.SetLaws.{length_set_of, has_set_of, set_ext}
use Rattle.lanes.proofs.LaneLaws.{lane_none, lane_or, lane_xor}

-- ---- differences that are gathered in a word

gathered : (w a b : Bool) → (w or not (same_flag a b)) ≡ false → (w ≡ false) × (a ≡ b)
unfolding ◌or◌ same_flag
gathered true a b e = absurd (true≢false e)
gathered false true true e = (refl, refl)
gathered false true false e = absurd (true≢false e)
gathered false false true e = absurd (true≢false e)
gathered false false false e = (refl, refl)

agreed : (a b : Bool) → (false or not (same_flag a b)) ≡ true → a ≡ b → ⊥
unfolding ◌or◌ same_flag
agreed true true e q = false≢true e
agreed true false e q = true≢false q
agreed false true e q = false≢true q
agreed false false e q = false≢true e

module _ (l w a b : ℕ) where
  by_lane : lane_bit l (bit_or w (bit_xor a b)) ≡ (lane_bit l w or not (same_flag (lane_bit l a) (lane_bit l b)))
  by_lane = rw (lane_or l w (bit_xor a b), lane_xor l a b)

  -- A lane that stays clear: it was clear, and the two agree there.
  or_xor_clear : lane_bit l (bit_or w (bit_xor a b)) ≡ false → (lane_bit l w ≡ false) × (lane_bit l a ≡ lane_bit l b)
  or_xor_clear h = gathered (lane_bit l w) (lane_bit l a) (lane_bit l b) (sym by_lane ∙ h)

  -- A lane that is newly set: the two differ there.
  or_xor_set : lane_bit l (bit_or w (bit_xor a b)) ≡ true → lane_bit l w ≡ false → lane_bit l a ≡ lane_bit l b → ⊥
  or_xor_set h c = agreed (lane_bit l a) (lane_bit l b) (ap (λ (x : Bool). x or not (same_flag (lane_bit l a) (lane_bit l b))) (sym c) ∙ sym by_lane ∙ h)

-- ---- the words

-- Of the first o words, the lanes in which one differs.
pub record Compared (before after : List ℕ) (word o : ℕ) : Type 0 where
  pub same : (l : ℕ) → lane_bit l word ≡ false → (j : ℕ) → j < o → lane_bit l (get_or before j 0) ≡ lane_bit l (get_or after j 0)
  pub other : (l : ℕ) → lane_bit l word ≡ true → ((j : ℕ) → j < o → lane_bit l (get_or before j 0) ≡ lane_bit l (get_or after j 0)) → ⊥

pub compared_none : (before after : List ℕ) → Compared before after 0 0
compared_none before after = record { same = λ l h j k. absurd (omega arith); other = λ l h s. absurd (true≢false (sym h ∙ lane_none l)) }

pub compared_more : (before after : List ℕ) (word o : ℕ) → Compared before after word o
    → Compared before after (bit_or word (bit_xor (get_or before o 0) (get_or after o 0))) (o + 1)
compared_more before after word o c = record {
  same = λ l h j k.
      let s = or_xor_clear l word (get_or before o 0) (get_or after o 0) h in
      elim (ℕ_discrete j o) [ yes e ↦ rw e s.1 | no e ↦ c.same l s.0 j (omega arith) ];
  other = λ l h s. go l h s (lane_bit l word) refl;
}
  where
    go : (l : ℕ) → lane_bit l (bit_or word (bit_xor (get_or before o 0) (get_or after o 0))) ≡ true
        → ((j : ℕ) → j < o + 1 → lane_bit l (get_or before j 0) ≡ lane_bit l (get_or after j 0)) → (b : Bool) → lane_bit l word ≡ b → ⊥
    go l h s true e = c.other l e (λ j k. s j (omega arith))
    go l h s false e = or_xor_set l word (get_or before o 0) (get_or after o 0) h e (s o (omega arith))

pub compared_all : (n : ℕ) (before after : List ℕ) (word : ℕ) → Compared before after word n → Changed n before after word
unfolding lane
compared_all n before after word c = record {
  same = λ l h.
      set_ext n (lane n l before) (lane n l after)
      (length_set_of (λ o. lane_bit l (get_or before o 0)) n) (length_set_of (λ o. lane_bit l (get_or after o 0)) n)
      (λ o k. has_set_of (λ o. lane_bit l (get_or before o 0)) n o k ∙ c.same l h o k ∙ sym (has_set_of (λ o. lane_bit l (get_or after o 0)) n o k));
  other = λ l h e.
      c.other l h
      (λ o k. sym (has_set_of (λ o. lane_bit l (get_or before o 0)) n o k) ∙ ap (λ s. has s o) e ∙ has_set_of (λ o. lane_bit l (get_or after o 0)) n o k);
}
