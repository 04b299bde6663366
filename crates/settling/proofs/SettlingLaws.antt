-- Rounds in sixty-four scenarios at once, from J0 to the models.
-- Assumes nothing.
use mathlib.Core.Path.{◌≡◌, refl, sym, ap, subst, ◌∙◌}
use mathlib.Core.Bool.{Bool, true, false, cond}
use mathlib.Core.List.{List}
use Prim.Native.Nat.{ℕ, suc, ◌+◌, ◌*◌, ◌^◌, ◌≤◌, ◌<◌, min}
use native.Mathlib.Decide.{dec_lt, ℕ_discrete}
use native.Mathlib.Omega.{arith}
use borrow.Author.Tests.{lt-ltb, le-ltb, ltb-true, ltb-false}
use lib.Bits.{bit_or}
use lib.Dec.{T, ltb}
use lib.ListN.{get_or, replicate}
use Rattle.literals.specs.Numbering.{judged}
use Rattle.papers.specs.Program.{Program}
use Rattle.papers.proofs.Lists.{get_or_zeros}
use Rattle.papers.specs.Tests.{◌or◌}
use Rattle.model.specs.Sets.{Set, has, empty, complement}
use Rattle.model.specs.Iteration.{iterate}
use Rattle.model.specs.Model.{Interpretation, true_set, false_set, successor, start, interpretation_at, rounds}
use Rattle.lanes.specs.Lanes.{lane_bit, lane, NoneBeyond, Changed, Written}
use Rattle.digits.specs.Digits.{AbducibleLanes}
use Rattle.lanes.specs.Words.{other_word, Laned}
use Rattle.settling.specs.declared.Moved.{Moved}
use Rattle.settling.specs.RoundLanes.{NextTrue, NextFalse, MadeIf, Round, changed_lanes, MarkedLanes, SettledLanes, HeldLanes}
use Rattle.papers.proofs.TestLaws.{is_false}
use Rattle.model.proofs.SetLaws.{length_empty, empty_out, set_ext}
use Rattle.lanes.proofs.LaneLaws.{lane_or, lane_none, words_same, sized, has_lane, lane_same, kept_none, complement_lane}
use Rattle.model.proofs.WarmStart.{true_grows}
use Rattle.model.proofs.Rounds.{interpretation_eq, next_is, rounds_le, model_possible, model_first, model_on}

module _ (p : Program) (s j : ℕ) where
  -- j + 1 is the round after j.
  same_round : interpretation_at p s (suc j) ≡ interpretation_at p s (j + 1)
  same_round = let e : suc j ≡ j + 1 = omega arith in ap (interpretation_at p s) e

  next : interpretation_at p s (j + 1) ≡ successor p s (interpretation_at p s j)
  next = sym same_round ∙ next_is p s j

module _ (p : Program) (base : ℕ) where
  -- In each lane the interpretation of round j.
  pub record LanesAt (j : ℕ) (t f : List ℕ) : Type 0 where
    pub true_in : (l : ℕ) → l < 64 → lane (judged p.atoms) l t ≡ (interpretation_at p (base + l) j).trues
    pub false_in : (l : ℕ) → l < 64 → lane (judged p.atoms) l f ≡ (interpretation_at p (base + l) j).falses

  -- J0: no word has a lane set.
  pub lanes_start : LanesAt 0 (replicate 513 0) (replicate 513 0)
  unfolding interpretation_at iterate start
  lanes_start = record { true_in = λ l h. none l; false_in = λ l h. none l } where
    none : (l : ℕ) → lane (judged p.atoms) l (replicate 513 0) ≡ empty (judged p.atoms)
    none l =
        set_ext (judged p.atoms) (lane (judged p.atoms) l (replicate 513 0)) (empty (judged p.atoms))
        (sized (judged p.atoms) l (replicate 513 0)) (length_empty (judged p.atoms))
        (λ o h.
        has_lane (judged p.atoms) l o (replicate 513 0) h
        ∙ ap (lane_bit l) (get_or_zeros 513 o)
        ∙ lane_none l
        ∙ sym (is_false (has (empty (judged p.atoms)) o) (empty_out (judged p.atoms) o)))

  -- T(j+1) by F(j), and F(j+1) by T(j).
  pub record TrueNext (f t' : List ℕ) : Type 0 where
    pub at : (l : ℕ) → l < 64 → lane (judged p.atoms) l t' ≡ true_set p (base + l) (lane (judged p.atoms) l f)

  pub record FalseNext (t f' : List ℕ) : Type 0 where
    pub at : (l : ℕ) → l < 64 → lane (judged p.atoms) l f' ≡ false_set p (base + l) (lane (judged p.atoms) l t)

  -- T(j) is a part of T(j+1), from which it may so be begun.
  grown : (j l : ℕ) (t f : List ℕ) → l < 64 → LanesAt j t f → (o : ℕ) → T (has (lane (judged p.atoms) l t) o)
      → T (has (true_set p (base + l) (lane (judged p.atoms) l f)) o)
  grown j l t f h w o x = rw (w.false_in l h) ((true_grows p (base + l) j).at o (rw (w.true_in l h) at x))

  module _ (j moved : ℕ) (trues falses t f before after : List ℕ) (a : AbducibleLanes p base trues falses) where
    -- Made, or as it stood.
    pub true_made : LanesAt j t f → MadeIf moved (NextTrue p trues t f before after) before after → (moved ≡ 0 → TrueNext f before) → TrueNext f after
    true_made w m kept = elim (ℕ_discrete moved 0) [
      | yes e ↦ rw (m.left e) (kept e)
      | no n ↦ record { at = λ l h. (m.anew n).true_in base l falses h a (grown j l t f h w) }
    ]

    pub false_made : MadeIf moved (NextFalse p falses t before after) before after → (moved ≡ 0 → FalseNext t before) → FalseNext t after
    false_made m kept = elim (ℕ_discrete moved 0) [
      | yes e ↦ rw (m.left e) (kept e)
      | no n ↦ record { at = λ l h. (m.anew n).false_in base l trues h a }
    ]

  pub lanes_next : (j : ℕ) (t f t' f' : List ℕ) → LanesAt j t f → TrueNext f t' → FalseNext t f' → LanesAt (j + 1) t' f'
  unfolding successor
  lanes_next j t f t' f' h x y = record {
    true_in = λ l b.
        x.at l b
        ∙ ap (true_set p (base + l)) (h.false_in l b)
        ∙ ap (λ (i : Interpretation). i.trues) (sym (next p (base + l) j));
    false_in = λ l b.
        y.at l b
        ∙ ap (false_set p (base + l)) (h.true_in l b)
        ∙ ap (λ (i : Interpretation). i.falses) (sym (next p (base + l) j));
  }

  -- A round changes a lane exactly if it comes before the lane's round count.
  pub changed_lane : (j : ℕ) (t f t' f' : List ℕ) (w v l : ℕ) → l < 64 → LanesAt j t f → LanesAt (j + 1) t' f'
      → Changed (judged p.atoms) t t' w → Changed (judged p.atoms) f f' v → lane_bit l (bit_or w v) ≡ ltb j (rounds p (base + l))
  unfolding ◌or◌
  changed_lane j t f t' f' w v l b h h' c d = lane_or l w v ∙ go (lane_bit l w) (lane_bit l v) refl refl where
    before : Interpretation
    before = interpretation_at p (base + l) j

    after : Interpretation
    after = interpretation_at p (base + l) (j + 1)

    -- Where the round changed something, it is not past the round count.
    early : (after ≡ before → ⊥) → true ≡ ltb j (rounds p (base + l))
    early n = elim (dec_lt j (rounds p (base + l))) [
      | yes k ↦ sym (lt-ltb j (rounds p (base + l)) k)
      | no k ↦ absurd (n (model_on p (base + l) (j + 1) (omega arith) ∙ sym (model_on p (base + l) j (omega arith))))
    ]

    late : after ≡ before → false ≡ ltb j (rounds p (base + l))
    late e = elim (dec_lt j (rounds p (base + l))) [
      | yes k ↦ absurd (model_first p (base + l) j k (same_round p (base + l) j ∙ e))
      | no k ↦ sym (le-ltb j (rounds p (base + l)) (omega arith))
    ]

    go : (x y : Bool) → lane_bit l w ≡ x → lane_bit l v ≡ y → (x or y) ≡ ltb j (rounds p (base + l))
    go true y e e' = early (λ q. c.other l e (h.true_in l b ∙ ap (λ (i : Interpretation). i.trues) (sym q) ∙ sym (h'.true_in l b)))
    go false true e e' = early (λ q. d.other l e' (h.false_in l b ∙ ap (λ (i : Interpretation). i.falses) (sym q) ∙ sym (h'.false_in l b)))
    go false false e e' =
        late
        (interpretation_eq after before (sym (h'.true_in l b) ∙ sym (c.same l e) ∙ h.true_in l b)
        (sym (h'.false_in l b) ∙ sym (d.same l e') ∙ h.false_in l b))

  -- Rounds by lane after round j: those of the definition, or j where they are more.
  pub record CountedTo (j : ℕ) (counts : List ℕ) : Type 0 where
    pub at : (l : ℕ) → l < 64 → get_or counts l 0 ≡ min j (rounds p (base + l))

  pub counted_none : CountedTo 0 (replicate 64 0)
  counted_none = record { at = λ l h. get_or_zeros 64 l ∙ omega arith }

  pub counted_next : (j w : ℕ) (counts counts' : List ℕ) → ((l : ℕ) → l < 64 → lane_bit l w ≡ ltb j (rounds p (base + l)))
      → CountedTo j counts → MarkedLanes w (j + 1) counts counts' → CountedTo (j + 1) counts'
  counted_next j w counts counts' c h m = record { at = λ l b. m.at l b ∙ rw (c l b) (go l b (ltb j (rounds p (base + l))) refl) } where
    go : (l : ℕ) → l < 64 → (x : Bool) → ltb j (rounds p (base + l)) ≡ x → cond x (j + 1) (get_or counts l 0) ≡ min (j + 1) (rounds p (base + l))
    go l b true e = let k = ltb-true j (rounds p (base + l)) e in omega arith
    go l b false e = let k = ltb-false j (rounds p (base + l)) e in let g = h.at l b in omega arith

  -- A round that changed a lane is one of the first 2N.
  pub rounds_left : (j w : ℕ) → w < 2 ^ 64 → ((l : ℕ) → l < 64 → lane_bit l w ≡ ltb j (rounds p (base + l))) → (w ≡ 0 → ⊥)
      → j < 2 * judged p.atoms
  rounds_left j w k c n = elim (dec_lt j (2 * judged p.atoms)) [
    | yes h ↦ h
    | no h ↦ absurd (n (words_same w 0 k (omega arith) (λ l b.
        let r = rounds_le p (base + l) in
        c l b ∙ le-ltb j (rounds p (base + l)) (omega arith) ∙ sym (lane_none l))))
  ]

  -- Where a round changed no lane, the models are reached.
  pub settled : (j w : ℕ) (t f counts : List ℕ) → ((l : ℕ) → l < 64 → lane_bit l w ≡ ltb j (rounds p (base + l))) → w ≡ 0
      → LanesAt (j + 1) t f → CountedTo (j + 1) counts → SettledLanes p base t f counts
  settled j w t f counts c z h k = record {
    true_in = λ l b. h.true_in l b ∙ ap (λ (i : Interpretation). i.trues) (model_on p (base + l) (j + 1) (past l b));
    false_in = λ l b. h.false_in l b ∙ ap (λ (i : Interpretation). i.falses) (model_on p (base + l) (j + 1) (past l b));
    counted = λ l b. let q = past l b in k.at l b ∙ omega arith;
  }
    where
      still : (l : ℕ) → l < 64 → rounds p (base + l) ≤ j
      still l b = ltb-false j (rounds p (base + l)) (sym (c l b) ∙ ap (lane_bit l) z ∙ lane_none l)

      past : (l : ℕ) → l < 64 → rounds p (base + l) ≤ j + 1
      past l b = let q = still l b in omega arith

  -- P of the models is what F leaves.
  pub held : {count : ℕ} {t before possible f counts : List ℕ} → count ≡ judged p.atoms → SettledLanes p base t f counts
      → NoneBeyond (judged p.atoms) t → NoneBeyond (judged p.atoms) f → Laned f → NoneBeyond (judged p.atoms) before
      → Written count (other_word f) before possible → HeldLanes p base t possible f
  held {t = t} {before = before} {possible = possible} {f = f} e s x y w z c = record {
    possible_in = λ l h.
        complement_lane (judged p.atoms) l f before possible h w left
        ∙ ap (λ (set : Set). complement (judged p.atoms) set) (s.false_in l h)
        ∙ model_possible p (base + l);
    true_beyond = x;
    possible_beyond = kept_none left.beyond z;
    false_beyond = y;
  }
    where
      left : Written (judged p.atoms) (other_word f) before possible
      left = subst (λ (m : ℕ). Written m (other_word f) before possible) e c

  -- What the loop over rounds knows: the interpretation of the last round, whether it was still changing, and that where it left F as it was the next
  -- T is at hand, and where it left T the next F.
  pub record Settling (j : ℕ) (t f next-t next-f : List ℕ) (moved : Moved) (counts : List ℕ) : Type 0 where
    pub lanes : LanesAt j t f
    pub counted : CountedTo j counts
    pub true_beyond : NoneBeyond (judged p.atoms) t
    pub false_beyond : NoneBeyond (judged p.atoms) f
    pub goes : (changed_lanes moved ≡ 0 → ⊥) → j ≤ 2 * judged p.atoms
    pub rests : changed_lanes moved ≡ 0 → SettledLanes p base t f counts
    pub true_next : moved.f ≡ 0 → TrueNext f next-t
    pub false_next : moved.t ≡ 0 → FalseNext t next-f

  pub settling_start : {t f : List ℕ} → t ≡ replicate 513 0 → f ≡ replicate 513 0 → (next-t next-f : List ℕ)
      → Settling 0 t f next-t next-f (record { t = 1; f = 1 }) (replicate 64 0)
  settling_start e g next-t next-f = rw (e, g) record {
    lanes = lanes_start;
    counted = counted_none;
    true_beyond = record { at = λ o h. get_or_zeros 513 o };
    false_beyond = record { at = λ o h. get_or_zeros 513 o };
    goes = λ e. omega arith;
    rests = λ e. absurd (omega arith);
    true_next = λ e. absurd (omega arith);
    false_next = λ e. absurd (omega arith);
  }

  -- A row that no lane of which has changed is the same in each lane.
  unmoved : {t t' : List ℕ} {w : ℕ} → Changed (judged p.atoms) t t' w → w ≡ 0 → (l : ℕ) → lane (judged p.atoms) l t ≡ lane (judged p.atoms) l t'
  unmoved c e l = c.same l (ap (lane_bit l) e ∙ lane_none l)

  module _ {j : ℕ} {trues falses next-t made-t next-f made-f t t' f f' counts : List ℕ} {moved moved' : Moved}
      (a : AbducibleLanes p base trues falses) (s : Settling j t f next-t next-f moved counts)
      (r : Round p trues falses moved moved' next-t made-t next-f made-f t t' f f') where
    abbrev n : ℕ
    n = judged p.atoms

    true_next : TrueNext f made-t
    true_next = true_made j moved.f trues falses t f next-t made-t a s.lanes r.true_made s.true_next

    false_next : FalseNext t made-f
    false_next = false_made j moved.t trues falses t f next-f made-f a r.false_made s.false_next

    true_same : (l : ℕ) → lane n l t' ≡ lane n l made-t
    true_same l = lane_same n l made-t t' r.true_taken.at

    false_same : (l : ℕ) → lane n l f' ≡ lane n l made-f
    false_same l = lane_same n l made-f f' r.false_taken.at

    made : LanesAt (j + 1) made-t made-f
    made = lanes_next j t f made-t made-f s.lanes true_next false_next

    after : LanesAt (j + 1) t' f'
    after = record { true_in = λ l h. true_same l ∙ made.true_in l h; false_in = λ l h. false_same l ∙ made.false_in l h }

    told : (l : ℕ) → l < 64 → lane_bit l (changed_lanes moved') ≡ ltb j (rounds p (base + l))
    told l b = changed_lane j t f made-t made-f moved'.t moved'.f l b s.lanes made r.true_moved r.false_moved

    pub settling_next : changed_lanes moved' < 2 ^ 64 → {counts' : List ℕ} → MarkedLanes (changed_lanes moved') (j + 1) counts counts'
        → Settling (j + 1) t' f' made-t made-f moved' counts'
    settling_next word {counts' = counts'} marked =
        let counted = counted_next j (changed_lanes moved') counts counts' told s.counted marked in
        record {
          lanes = after;
          counted = counted;
          true_beyond = kept_none r.true_taken.beyond s.true_beyond;
          false_beyond = kept_none r.false_taken.beyond s.false_beyond;
          goes = λ g. let few = rounds_left j (changed_lanes moved') word told g in omega arith;
          rests = λ g. settled j (changed_lanes moved') t' f' counts' told g after counted;
          true_next = λ e. record { at = λ l h. true_next.at l h ∙ ap (true_set p (base + l)) (unmoved r.false_moved e l ∙ sym (false_same l)) };
          false_next = λ e. record { at = λ l h. false_next.at l h ∙ ap (false_set p (base + l)) (unmoved r.true_moved e l ∙ sym (true_same l)) };
        }
