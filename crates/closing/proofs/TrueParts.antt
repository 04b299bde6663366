-- The true set by parts: no rules, a single rule, and a part after those before it.
-- Assumes nothing.
use mathlib.Core.Path.{◌≡◌, refl, sym, ap, subst, ◌∙◌}
use mathlib.Core.Bool.{Bool, true, false}
use mathlib.Core.List.{List, [], ◌∷◌, ◌++◌}
use mathlib.Core.Logic.{⊎_elim}
use Prim.Native.Nat.{ℕ, zero, suc, ◌+◌, ◌-◌, ◌<◌}
use native.Mathlib.Omega.{arith}
use lib.Dec.{T, eqb, eqb_refl}
use lib.ListN.{length, get_or, take, drop, length-append, length-take, get_or-append}
use lib.Seq.{length-take-le, get_or-take, get_or-drop, get_or-append-add, take-add}
use Rattle.papers.specs.Program.{Rule, no_rule}
use Rattle.parts.specs.Parts.{place_of, head_at, PartEnd, Apart}
use Rattle.parts.proofs.MarkedParts.{part_count, part_visit}
use Rattle.papers.specs.Tests.{◌and◌, ◌or◌}
use Rattle.model.specs.Sets.{Set, full}
use Rattle.model.specs.LeastSet.{body_holds, least}
use Rattle.lanes.specs.Lanes.{lane_bit, lane}
use Rattle.lanes.specs.Words.{Laned}
use Rattle.closing.specs.Closing.{rule_in, visited_rule, rules_in, RulesStand, Judged, Raised, begun, then, ClosedTrue}
use Rattle.papers.proofs.TestLaws.{both, right, either, either_right}
use Rattle.model.proofs.SetLaws.{Sub, sub_refl}
use Rattle.model.proofs.LeastLaws.{body_mono}
use Rattle.model.proofs.LeastParts.{ApartRules, least_parts}
use Rattle.closing.proofs.ClosingLaws.{length_rules, rule_visited, rows_judged, lane_in, lane_of, raised_in, done, Going, going_closed}

-- ---- no rules

none_judged : Judged 513 []
none_judged = record { few = omega arith; head = λ k h. absurd (omega arith); body = λ k h. absurd (omega arith) }

pub none_closed : (rows visits : List ℕ) {negated before : List ℕ} → Laned before → ClosedTrue (rules_in rows (take 0 visits)) negated before before
unfolding rules_in
none_closed rows visits begins =
    going_closed begins none_judged
    (λ n j. record {
      laned = begins;
      beyond = λ o h. refl;
      grows = λ l h o t. t;
      inside = λ l h s u b. b;
      ruled = λ e k h. absurd (omega arith);
    })

-- ---- a single rule

module _ {r : Rule} {negated before after : List ℕ} {changed : Bool} (begins : Laned before) (one : Raised r negated before after changed) where
  module _ (n : ℕ) (j : Judged n (r ∷ [])) where
    -- Where its head did not come in, nothing did: so its body does not hold.
    raised_holds : (l : ℕ) → l < 64 → T (body_holds false (lane n l after) (lane n l negated) r.body) → T (lane_bit l (get_or after r.head 0))
    raised_holds l h t = go (lane_bit l (get_or after r.head 0)) refl where
      body : Bool
      body = body_holds false (lane n l before) (lane n l negated) r.body

      came : (o : ℕ) → lane_bit l (get_or after o 0) ≡ (lane_bit l (get_or before o 0) or (eqb r.head o and body))
      came = raised_in one (omega (arith, j.few, j.head 0 (omega arith), begins.many)) n (j.body 0 (omega arith)) l h

      head_in : T body → T (lane_bit l (get_or after r.head 0))
      head_in b = rw (came r.head) (either_right _ _ (both _ _ (eqb_refl r.head) b))

      go : (b : Bool) → lane_bit l (get_or after r.head 0) ≡ b → T b
      go true e = tt
      go false e =
          let stays : Sub (lane n l after) (lane n l before) = record {
            at = λ o x.
                let k = lane_in n l o after x in
                ⊎_elim
                (lane_of n l o before k.0)
                (λ y. absurd (rw e at (head_in (right _ _ y))))
                (either _ _ (rw (came o) at k.1));
          } in
          rw e at (head_in (body_mono false false (λ u. u) stays sub_refl r.body t))

    raised_going : Going n (r ∷ []) negated before after false
    raised_going =
        let d = done n (r ∷ []) negated before j begins (then begun one) (omega arith) in
        record {
          laned = d.laned;
          beyond = d.beyond;
          grows = d.grows;
          inside = d.inside;
          ruled = λ e. ruled_at;
        } where
          ruled_at : (k : ℕ) → k < 1 → (l : ℕ) → l < 64 → T (body_holds false (lane n l after) (lane n l negated) (get_or (r ∷ []) k no_rule).body)
              → T (lane_bit l (get_or after (get_or (r ∷ []) k no_rule).head 0))
          ruled_at zero h l m t = raised_holds l m t
          ruled_at (suc k) h l m t = absurd (omega arith)

  raised_closed : Judged 513 (r ∷ []) → ClosedTrue (r ∷ []) negated before after
  raised_closed j = going_closed begins j raised_going

single_rule : (rows visits : List ℕ) → length visits ≡ 1 → rules_in rows visits ≡ rule_in rows (place_of (get_or visits 0 0)) ∷ []
unfolding rules_in visited_rule
single_rule rows [] e = absurd (omega arith)
single_rule rows (v ∷ []) e = refl
single_rule rows (v ∷ w ∷ more) e = absurd (omega arith)

pub single_closed : (rows visits : List ℕ) {negated before after : List ℕ} {changed : Bool} → length visits ≡ 1 → RulesStand rows visits → Laned before
    → Raised (rule_in rows (place_of (get_or visits 0 0))) negated before after changed → ClosedTrue (rules_in rows visits) negated before after
single_closed rows visits e s begins one =
    let q = single_rule rows visits e in
    rw q (raised_closed begins one (rw q at (rows_judged rows visits s)))

-- ---- a part after those before it

module _ (first second : List Rule) {n : ℕ} (j : Judged n (first ++ second)) where
  judged_first : Judged n first
  judged_first = let l = length-append first second in record {
    few = j.few;
    head = λ k h. rw (get_or-append first second no_rule k h) at (j.head k (omega arith));
    body = λ k h. rw (get_or-append first second no_rule k h) at (j.body k (omega arith));
  }

  judged_second : Judged n second
  judged_second = let l = length-append first second in record {
    few = j.few;
    head = λ k h. rw (get_or-append-add first second k no_rule) at (j.head (length first + k) (omega arith));
    body = λ k h. rw (get_or-append-add first second k no_rule) at (j.body (length first + k) (omega arith));
  }

closed_then : {first second : List Rule} {negated before words after : List ℕ} → ApartRules first second → ClosedTrue first negated before words
    → ClosedTrue second negated words after → ClosedTrue (first ++ second) negated before after
closed_then {first} {second} {negated} {before} {words} {after} a c d = record {
  in_lane = λ n j l h.
      d.in_lane n (judged_second first second j) l h
      ∙ ap (λ (s : Set). least n second (record { seed = s; allowed = full n; negated = lane n l negated; undefined = false }))
      (c.in_lane n (judged_first first second j) l h)
      ∙ sym (least_parts n first second (record { seed = lane n l before; allowed = full n; negated = lane n l negated; undefined = false }) a);
  beyond = λ n j. record { at = λ o h. (d.beyond n (judged_second first second j)).at o h ∙ (c.beyond n (judged_first first second j)).at o h };
  laned = d.laned;
}

rules_append : (rows first second : List ℕ) → rules_in rows (first ++ second) ≡ rules_in rows first ++ rules_in rows second
unfolding rules_in
rules_append rows [] second = refl
rules_append rows (v ∷ more) second = ap (λ (rules : List Rule). visited_rule rows v ∷ rules) (rules_append rows more second)

module _ (rows visits : List ℕ) (start end : ℕ) (p : PartEnd visits start end) where
  abbrev fore : List ℕ
  fore = take start visits

  abbrev part : List ℕ
  part = take (end - start) (drop start visits)

  pub part_stands : RulesStand rows visits → RulesStand rows part
  part_stands s = record {
    at = λ i h.
        let w : i < end - start = omega (arith, part_count visits start end p.within) in
        rw (part_visit visits start end p.within i w) (s.at (start + i) (omega (arith, p.within)));
  }

  fore_rule : (i : ℕ) → i < length (rules_in rows fore) → (i < start) × (get_or (rules_in rows fore) i no_rule ≡ rule_in rows (place_of (get_or visits i 0)))
  fore_rule i h =
      let l = length-take-le start visits (omega (arith, p.later, p.within)) in
      let m = length_rules rows fore in
      let w : i < start = omega arith in
      (w, rule_visited rows fore i (omega arith) ∙ ap (λ (v : ℕ). rule_in rows (place_of v)) (get_or-take start visits i 0 w))

  part_rule : (j : ℕ) → j < length (rules_in rows part)
      → (j < end - start) × (get_or (rules_in rows part) j no_rule ≡ rule_in rows (place_of (get_or visits (start + j) 0)))
  part_rule j h =
      let l = part_count visits start end p.within in
      let m = length_rules rows part in
      let w : j < end - start = omega arith in
      (w, rule_visited rows part j (omega arith) ∙ ap (λ (v : ℕ). rule_in rows (place_of v)) (part_visit visits start end p.within j w))

  -- Literal k of the row at a place.
  body_at : (place k : ℕ) → k < length (rule_in rows place).body
      → (k < get_or rows (place + 1) 0) × (get_or (rule_in rows place).body k 0 ≡ get_or rows (place + 2 + k) 0)
  unfolding rule_in
  body_at place k h =
      let size = get_or rows (place + 1) 0 in
      let w : k < size = omega (arith, length-take size (drop (place + 2) rows)) in
      (w, get_or-take size (drop (place + 2) rows) k 0 w ∙ get_or-drop (place + 2) rows k 0)

  apart_rules : Apart 0 (length visits) rows visits start → ApartRules (rules_in rows fore) (rules_in rows part)
  unfolding rule_in head_at
  apart_rules a = record {
    apart = λ i j k h m q e.
        let f = fore_rule i h in
        let g = part_rule j m in
        let place = place_of (get_or visits i 0) in
        let b = body_at place k (rw f.1 at q) in
        a.apart i (start + j) f.0 (omega arith) (omega (arith, p.within))
        (record { at = k; within = b.0; asked = sym b.1 ∙ (rw (f.1, g.1) at e) ∙ omega arith });
  }

  -- The true set closed under the rules so far, and then under those of a part.
  pub part_closed : {negated before words after : List ℕ} → Apart 0 (length visits) rows visits start → ClosedTrue (rules_in rows fore) negated before words
      → ClosedTrue (rules_in rows part) negated words after → ClosedTrue (rules_in rows (take end visits)) negated before after
  part_closed {negated} {before} {words} {after} a c d =
      let n : start + (end - start) ≡ end = omega (arith, p.later) in
      let e : rules_in rows fore ++ rules_in rows part ≡ rules_in rows (take end visits) =
      sym (rules_append rows fore part) ∙ ap (rules_in rows) (sym (take-add start (end - start) visits))
      ∙ ap (λ (k : ℕ). rules_in rows (take k visits)) n in
      subst (λ (rules : List Rule). ClosedTrue rules negated before after) e (closed_then (apart_rules a) c d)
