-- Closing sets of 64 lanes under the rules: what a rule and a pass keep, why passes end, and that they end at the least set of each lane.
-- Assumes nothing.
use mathlib.Core.Path.{◌≡◌, refl, sym, ap, subst, ◌∙◌}
use mathlib.Core.Bool.{Bool, true, false, not, ◌||◌, true≢false}
use mathlib.Core.List.{List, [], ◌∷◌}
use mathlib.Core.Logic.{⊎_elim}
use Prim.Native.Nat.{ℕ, suc, ◌+◌, ◌-◌, ◌*◌, ◌≤◌, ◌<◌}
use native.Mathlib.Omega.{arith}
use native.Mathlib.Decide.{ℕ_discrete}
use borrow.Author.Tests.{eqb-true, eqb-false, eq-eqb, ne_eqb, not-true, not-false}
use lib.Bits.{bit_or, or_add_and, and_le_r, or_lt}
use lib.Dec.{T, eqb, eqb→eq, eqb_refl}
use lib.ListN.{length, get_or, take, drop, set, length-set, length-map}
use lib.Seq.{get_or-set_same, get_or-set_other, set-get_or}
use Rattle.papers.specs.Program.{Rule, no_rule}
use Rattle.papers.proofs.Lists.{get_or_map_lt}
use Rattle.parts.specs.Parts.{place_of}
use Rattle.papers.specs.Tests.{◌and◌, ◌or◌}
use Rattle.model.specs.Sets.{Set, has, full}
use Rattle.model.specs.LeastSet.{body_holds, supported, Reduct, least}
use Rattle.lanes.specs.Lanes.{lane_bit, lane}
use Rattle.lanes.specs.Words.{Literals, total, Laned}
use Rattle.closing.specs.Closing.{rule_in, visited_rule, rules_in, RuleStands, RulesStand, Judged, Raised, Passed, begun, then, ClosedTrue, left_over}
use Rattle.closing.specs.Passes.{Passing}
use Rattle.papers.proofs.TestLaws.{both, left, right, either, either_left, either_right, true_and, false_and, false_or, or_false}
use Rattle.model.proofs.SetLaws.{Sub, has_within, full_in, sub_refl}
use Rattle.model.proofs.LeastLaws.{body_mono, least_closed, least_is}
use Rattle.model.proofs.Support.{supported_tells, supported_is}
use Rattle.lanes.proofs.LaneLaws.{lane_or, has_lane, sized, total_set}

-- ---- rules as rows

pub length_rules : (rows visits : List ℕ) → length (rules_in rows visits) ≡ length visits
unfolding rules_in
length_rules rows visits = length-map visits (visited_rule rows)

-- The rule of a visit.
pub rule_visited : (rows visits : List ℕ) (i : ℕ) → i < length visits
    → get_or (rules_in rows visits) i no_rule ≡ rule_in rows (place_of (get_or visits i 0))
unfolding rules_in visited_rule
rule_visited rows visits i h = get_or_map_lt (visited_rule rows) visits i no_rule 0 h

-- Its body as a part of the rows.
pub body_part : (rows : List ℕ) (place size : ℕ) → size ≡ get_or rows (place + 1) 0
    → take (place + 2 + size - (place + 2)) (drop (place + 2) rows) ≡ (rule_in rows place).body
unfolding rule_in
body_part rows place size e =
    let n : place + 2 + size - (place + 2) ≡ get_or rows (place + 1) 0 = omega arith in
    ap (λ (k : ℕ). take k (drop (place + 2) rows)) n

-- There is a word for each objective literal.
pub rows_judged : (rows visits : List ℕ) → RulesStand rows visits → Judged 513 (rules_in rows visits)
rows_judged rows visits s = record {
  few = omega arith;
  head = λ k h.
      let w : k < length visits = omega (arith, length_rules rows visits) in
      rw (rule_visited rows visits k w) (s.at k w).head;
  body = λ k h.
      let w : k < length visits = omega (arith, length_rules rows visits) in
      rw (rule_visited rows visits k w) (s.at k w).body;
}

-- ---- words and their sum

total_le : (words : List ℕ) (b : ℕ) → ((o : ℕ) → get_or words o 0 ≤ b) → total words ≤ length words * b
unfolding total
total_le [] b h = omega arith
total_le (w ∷ ws) b h = omega (arith, h 0, total_le ws b (λ o. h (suc o)))

or_ge : (a b : ℕ) → a ≤ bit_or a b
or_ge a b = omega (arith, or_add_and a b, and_le_r a b)

no_flag : {A : Type 0} → true ≡ false → A
no_flag e = absurd (true≢false cc)

or_first : (a b : Bool) → (a or b) ≡ false → a ≡ false
unfolding ◌or◌
or_first true b e = e
or_first false b e = refl

or_second : (a b : Bool) → (a or b) ≡ false → b ≡ false
unfolding ◌or◌
or_second true b e = no_flag e
or_second false b e = e

pub or_turned : (a b : Bool) → (a || b) ≡ (b or a)
unfolding ◌or◌
or_turned true true = refl
or_turned true false = refl
or_turned false true = refl
or_turned false false = refl

or_absorb : (a b : Bool) → (a or (not a and b)) ≡ (a or b)
unfolding ◌or◌ ◌and◌
or_absorb true b = refl
or_absorb false b = refl

-- ---- one rule

module _ {r : Rule} {negated before after : List ℕ} {changed : Bool} (so : Raised r negated before after changed) where
  pub raised_sized : length after ≡ length before
  raised_sized = ap length so.is ∙ length-set before r.head (bit_or (get_or before r.head 0) so.word)

  pub raised_other : (o : ℕ) → (o ≡ r.head → ⊥) → get_or after o 0 ≡ get_or before o 0
  raised_other o ne =
      ap (λ (w : List ℕ). get_or w o 0) so.is
      ∙ get_or-set_other before r.head o (bit_or (get_or before r.head 0) so.word) 0 ne

  pub raised_same : changed ≡ false → after ≡ before
  raised_same e =
      so.is
      ∙ ap (set before r.head) (eqb-true (bit_or (get_or before r.head 0) so.word) (get_or before r.head 0) (not-false _ (sym so.told ∙ e)))
      ∙ set-get_or before r.head 0

  module _ (within : r.head < length before) where
    raised_head : get_or after r.head 0 ≡ bit_or (get_or before r.head 0) so.word
    raised_head =
        ap (λ (w : List ℕ). get_or w r.head 0) so.is
        ∙ get_or-set_same before r.head (bit_or (get_or before r.head 0) so.word) 0 within

    pub raised_laned : Laned before → Laned after
    raised_laned w = record {
      many = raised_sized ∙ w.many;
      fits = λ o. elim (ℕ_discrete o r.head) [
        | yes e ↦ rw (e, raised_head) (or_lt 64 (get_or before r.head 0) so.word (w.fits r.head) so.fits)
        | no ne ↦ rw (raised_other o ne) (w.fits o)
      ];
    }

    pub raised_more : changed ≡ true → total before < total after
    raised_more e =
        let ne = eqb-false (bit_or (get_or before r.head 0) so.word) (get_or before r.head 0) (not-true _ (sym so.told ∙ e)) in
        let s = total_set before r.head (bit_or (get_or before r.head 0) so.word) within in
        let g = or_ge (get_or before r.head 0) so.word in
        rw so.is (omega arith)

    -- What is in, in each lane: what was, and the head where the body holds.
    module _ (n : ℕ) (literals : Literals n r.body) (l : ℕ) (below : l < 64) where
      word_in : lane_bit l so.word ≡ (not (lane_bit l (get_or before r.head 0)) and body_holds false (lane n l before) (lane n l negated) r.body)
      word_in =
          so.holds.in_lane n literals l
          ∙ ap (λ (b : Bool). b and body_holds false (lane n l before) (lane n l negated) r.body) (so.others.at l below)

      pub raised_in : (o : ℕ)
          → lane_bit l (get_or after o 0) ≡ (lane_bit l (get_or before o 0) or (eqb r.head o and body_holds false (lane n l before) (lane n l negated) r.body))
      raised_in o = elim (ℕ_discrete o r.head) [
        | yes e ↦
            let body = body_holds false (lane n l before) (lane n l negated) r.body in
            rw (e, raised_head, eq-eqb r.head r.head refl, true_and body)
            (lane_or l (get_or before r.head 0) so.word
            ∙ ap (λ (b : Bool). lane_bit l (get_or before r.head 0) or b) word_in
            ∙ or_absorb (lane_bit l (get_or before r.head 0)) body)
        | no ne ↦
            rw (raised_other o ne, ne_eqb r.head o (λ e. ne (sym e)), false_and (body_holds false (lane n l before) (lane n l negated) r.body))
            (sym (or_false (lane_bit l (get_or before o 0))))
      ]

      pub raised_grows : (o : ℕ) → T (lane_bit l (get_or before o 0)) → T (lane_bit l (get_or after o 0))
      raised_grows o t = rw (raised_in o) (either_left _ _ t)

      -- Where nothing changed the rule holds.
      pub raised_ruled : changed ≡ false → T (body_holds false (lane n l before) (lane n l negated) r.body) → T (lane_bit l (get_or before r.head 0))
      raised_ruled e t =
          let s : get_or after r.head 0 ≡ get_or before r.head 0 = ap (λ (w : List ℕ). get_or w r.head 0) (raised_same e) in
          rw (sym s, raised_in r.head) (either_right _ _ (both _ _ (eqb_refl r.head) t))

-- ---- a pass

-- The rules bring a set nothing more.
pub record Ruled (n : ℕ) (rules : List Rule) (negated s : Set) : Type 0 where
  pub heads : (o : ℕ) → o < n → T (supported false s negated rules o) → T (has s o)

-- What the first rules have done.
pub record Done (n : ℕ) (rules : List Rule) (negated before : List ℕ) (count : ℕ) (after : List ℕ) (changed : Bool) : Type 0 where
  pub laned : Laned after
  pub beyond : (o : ℕ) → n ≤ o → get_or after o 0 ≡ get_or before o 0
  -- Each set grows,
  pub grows : (l : ℕ) → l < 64 → (o : ℕ) → T (lane_bit l (get_or before o 0)) → T (lane_bit l (get_or after o 0))
  -- and stays in every set that it was in and that the rules bring nothing more.
  pub inside : (l : ℕ) → l < 64 → (s : Set) → Ruled n rules (lane n l negated) s → Sub (lane n l before) s → Sub (lane n l after) s
  -- Where nothing changed, the sets are as they were, and the rules hold in them.
  pub same : changed ≡ false → after ≡ before
  pub ruled : changed ≡ false → (k : ℕ) → k < count → (l : ℕ) → l < 64
      → T (body_holds false (lane n l before) (lane n l negated) (get_or rules k no_rule).body) → T (lane_bit l (get_or before (get_or rules k no_rule).head 0))
  -- Where something changed, the sum has grown.
  pub more : changed ≡ true → total before < total after

pub lane_in : (n l o : ℕ) (words : List ℕ) → T (has (lane n l words) o) → (o < n) × T (lane_bit l (get_or words o 0))
lane_in n l o words t =
    let w = has_within (lane n l words) o t in
    let e = sized n l words in
    let h : o < n = omega arith in
    (h, rw (has_lane n l o words h) at t)

pub lane_of : (n l o : ℕ) (words : List ℕ) → o < n → T (lane_bit l (get_or words o 0)) → T (has (lane n l words) o)
lane_of n l o words h t = rw (has_lane n l o words h) t

module _ (n : ℕ) (rules : List Rule) (negated before : List ℕ) (j : Judged n rules) (begins : Laned before) where
  done_none : Done n rules negated before 0 before false
  done_none = record {
    laned = begins;
    beyond = λ o h. refl;
    grows = λ l h o t. t;
    inside = λ l h s u b. b;
    same = λ e. refl;
    ruled = λ e k h l m t. absurd (omega arith);
    more = λ e. no_flag (sym e);
  }

  module _ {count : ℕ} {words after : List ℕ} {changed more : Bool} (here : count < length rules) (so : Done n rules negated before count words changed)
      (one : Raised (get_or rules count no_rule) negated words after more) where
    within : (get_or rules count no_rule).head < length words
    within = omega (arith, j.few, j.head count here, so.laned.many)

    raised_inside : (l : ℕ) → l < 64 → (s : Set) → Ruled n rules (lane n l negated) s → Sub (lane n l words) s → Sub (lane n l after) s
    raised_inside l h s u b = record {
      at = λ o t.
          let k = lane_in n l o after t in
          ⊎_elim
          (λ x. b.at o (lane_of n l o words k.0 x))
          (λ x.
          u.heads o k.0
          (supported_is false s (lane n l negated) rules o count
          (record {
            below = here;
            heads = eqb→eq (get_or rules count no_rule).head o (left _ _ x);
            body = body_mono false false (λ u. u) b sub_refl (get_or rules count no_rule).body (right _ _ x);
          })))
          (either _ _ (rw (raised_in one within n (j.body count here) l h o) at k.1));
    }

    no_less : (b : Bool) → changed ≡ b → total before ≤ total words
    no_less true e = omega (arith, so.more e)
    no_less false e = omega (arith, ap total (so.same e))

    done_more : (a : Bool) → more ≡ a → (more or changed) ≡ true → total before < total after
    done_more true e f = omega (arith, no_less changed refl, raised_more one within e)
    done_more false e f =
        let g : changed ≡ true = sym (rw e (false_or changed)) ∙ f in
        omega (arith, so.more g, ap total (raised_same one e))

    done_then : Done n rules negated before (count + 1) after (more or changed)
    done_then = record {
      laned = raised_laned one within so.laned;
      beyond = λ o h. raised_other one o (λ e. absurd (omega (arith, j.head count here))) ∙ so.beyond o h;
      grows = λ l h o t. raised_grows one within n (j.body count here) l h o (so.grows l h o t);
      inside = λ l h s u b. raised_inside l h s u (so.inside l h s u b);
      same = λ e. raised_same one (or_first more changed e) ∙ so.same (or_second more changed e);
      ruled = λ e k m l h t.
          let q = so.same (or_second more changed e) in
          elim (ℕ_discrete k count) [
            | yes i ↦
                rw (i, sym q)
                (raised_ruled one within n (j.body count here) l h (or_first more changed e) (rw (i, sym q) at t))
            | no ne ↦ so.ruled (or_second more changed e) k (omega arith) l h t
          ];
      more = done_more more refl;
    }

  pub done : {count : ℕ} {after : List ℕ} {changed : Bool} → Passed rules negated before count after changed → count ≤ length rules
      → Done n rules negated before count after changed
  done begun h = done_none
  done (then so one) h = done_then (omega arith) (done so (omega arith)) one

-- ---- passes until one changes nothing

pub record Going (n : ℕ) (rules : List Rule) (negated before words : List ℕ) (going : Bool) : Type 0 where
  pub laned : Laned words
  pub beyond : (o : ℕ) → n ≤ o → get_or words o 0 ≡ get_or before o 0
  pub grows : (l : ℕ) → l < 64 → (o : ℕ) → T (lane_bit l (get_or before o 0)) → T (lane_bit l (get_or words o 0))
  pub inside : (l : ℕ) → l < 64 → (s : Set) → Ruled n rules (lane n l negated) s → Sub (lane n l before) s → Sub (lane n l words) s
  pub ruled : going ≡ false → (k : ℕ) → k < length rules → (l : ℕ) → l < 64
      → T (body_holds false (lane n l words) (lane n l negated) (get_or rules k no_rule).body) → T (lane_bit l (get_or words (get_or rules k no_rule).head 0))

-- A rule by itself leaves less to be done where it changes a word.
pub rule_goes_on : {rows negated before after : List ℕ} {place : ℕ} {changed : Bool} → RuleStands rows place → Laned before
    → Raised (rule_in rows place) negated before after changed → Passing left_over before after changed
rule_goes_on {rows} {before = before} {after = after} {place = place} stands begins one = record {
  same = raised_same one;
  less = λ e.
      let within : (rule_in rows place).head < length before = omega (arith, stands.head, begins.many) in
      let k = raised_laned one within begins in
      omega (arith, raised_more one within e, total_le after 18446744073709551615 (λ o. omega (arith, k.fits o)), k.many);
}

module _ (n : ℕ) (rules : List Rule) (negated before : List ℕ) (j : Judged n rules) (begins : Laned before) where
  pub going_starts : Going n rules negated before before true
  going_starts = record {
    laned = begins;
    beyond = λ o h. refl;
    grows = λ l h o t. t;
    inside = λ l h s u b. b;
    ruled = λ e. no_flag e;
  }

  module _ {words after : List ℕ} {going changed : Bool} (so : Going n rules negated before words going)
      (pass : Passed rules negated words (length rules) after changed) where
    passed : Done n rules negated words (length rules) after changed
    passed = done n rules negated words j so.laned pass (omega arith)

    pub going_on : Going n rules negated before after changed
    going_on = let d = passed in record {
      laned = d.laned;
      beyond = λ o h. d.beyond o h ∙ so.beyond o h;
      grows = λ l h o t. d.grows l h o (so.grows l h o t);
      inside = λ l h s u b. d.inside l h s u (so.inside l h s u b);
      ruled = λ e k m l h t. let q = d.same e in rw q (d.ruled e k m l h (rw q at t));
    }

  going_ends : {words : List ℕ} → Going n rules negated before words false → (l : ℕ) → l < 64
      → lane n l words ≡ least n rules (record { seed = lane n l before; allowed = full n; negated = lane n l negated; undefined = false })
  going_ends {words} so l h =
      let g : Reduct = record { seed = lane n l before; allowed = full n; negated = lane n l negated; undefined = false } in
      let top = least_closed n rules g in
      least_is n rules g (lane n l words) (sized n l words)
      (record {
        seeds = λ o m a t. lane_of n l o words m (so.grows l h o (lane_in n l o before t).1);
        heads = λ o m a t.
            let s = supported_tells false (lane n l words) (lane n l negated) rules o t in
            lane_of n l o words m
            (subst (λ (q : ℕ). T (lane_bit l (get_or words q 0))) s.1.heads (so.ruled refl s.0 s.1.below l h s.1.body));
      })
      (so.inside l h (least n rules g) (record { heads = λ o m t. top.heads o m (full_in n o m) t })
      (record { at = λ o t. let k = lane_in n l o before t in top.seeds o k.0 (full_in n o k.0) t }))

-- Where they have ended for every n, the sets are closed.
pub going_closed : {rules : List Rule} {negated before words : List ℕ} → Laned before → Judged 513 rules
    → ((n : ℕ) → Judged n rules → Going n rules negated before words false) → ClosedTrue rules negated before words
going_closed {rules} {negated} {before} begins j so = record {
  in_lane = λ n i. going_ends n rules negated before i begins (so n i);
  beyond = λ n i. record { at = (so n i).beyond };
  laned = (so 513 j).laned;
}
