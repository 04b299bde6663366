-- A round in sixty-four scenarios at once, from its parts.
-- Assumes nothing.
use mathlib.Core.Path.{◌≡◌, refl, sym, ap, ◌∙◌}
use mathlib.Core.Bool.{Bool, true, false, cond}
use mathlib.Core.List.{List}
use Prim.Native.Nat.{ℕ, ◌+◌, ◌*◌, ◌<◌}
use native.Mathlib.Omega.{arith}
use borrow.Author.Tests.{ltb-true}
use lib.ListN.{get_or}
use Rattle.literals.specs.Numbering.{explicit_conjugate, judged, listed}
use Rattle.literals.proofs.NumberingLaws.{explicit_below}
use Rattle.papers.specs.Program.{Program, all_rules}
use Rattle.papers.specs.Valid.{Valid}
use Rattle.rows.specs.Rows.{rule_rows, Stand}
use Rattle.papers.specs.Tests.{◌and◌, ◌or◌}
use Rattle.model.specs.Sets.{Set, has, set_of, full}
use Rattle.model.specs.LeastSet.{Reduct, least}
use Rattle.model.specs.Scenarios.{false_abducible, true_abducibles}
use Rattle.model.specs.Model.{true_reduct, conjugate_in}
use Rattle.lanes.specs.Lanes.{lane_bit, lane, backing_word, Written}
use Rattle.lanes.specs.Words.{joined_word}
use Rattle.digits.specs.Digits.{AbducibleLanes}
use Rattle.closing.specs.Closing.{rules_in, ClosedTrue}
use Rattle.closing.specs.FalseWords.{FalseWords}
use Rattle.settling.specs.RoundLanes.{NextTrue, NextFalse}
use Rattle.papers.proofs.TestLaws.{true_and, false_and}
use Rattle.model.proofs.SetLaws.{length_set_of, has_set_of, set_ext}
use Rattle.model.proofs.ScenarioLaws.{has_true}
use Rattle.model.proofs.WarmStart.{joined, true_warm}
use Rattle.model.proofs.FalsityLaws.{falsity_from_dual}
use Rattle.lanes.proofs.LaneLaws.{lane_or, lane_none, has_lane, sized}
use Rattle.closing.proofs.RulesVisited.{visited_judged, least_visited}
use Rattle.closing.proofs.ClosingFalse.{lane_greatest}

-- The true abducible literals and T(j) together, in each lane.
pub joined_lane : (p : Program) (base l : ℕ) (trues falses t before after : List ℕ) → l < 64 → AbducibleLanes p base trues falses
    → Written (judged p.atoms) (joined_word trues t) before after
    → lane (judged p.atoms) l after ≡ joined (judged p.atoms) (true_abducibles p (base + l)) (lane (judged p.atoms) l t)
unfolding joined joined_word
joined_lane p base l trues falses t before after h a w =
    set_ext (judged p.atoms) (lane (judged p.atoms) l after)
    (set_of (judged p.atoms) (λ o. has (true_abducibles p (base + l)) o or has (lane (judged p.atoms) l t) o))
    (sized (judged p.atoms) l after)
    (length_set_of (λ o. has (true_abducibles p (base + l)) o or has (lane (judged p.atoms) l t) o) (judged p.atoms))
    (λ o k.
    has_lane (judged p.atoms) l o after k
    ∙ ap (lane_bit l) (w.at o k)
    ∙ lane_or l (get_or trues o 0) (get_or t o 0)
    ∙ ap (λ (b : Bool). b or lane_bit l (get_or t o 0)) (a.true_at l o h k ∙ sym (has_true p (base + l) o k))
    ∙ ap (λ (b : Bool). has (true_abducibles p (base + l)) o or b) (sym (has_lane (judged p.atoms) l o t k))
    ∙ sym (has_set_of (λ q. has (true_abducibles p (base + l)) q or has (lane (judged p.atoms) l t) q) (judged p.atoms) o k))

-- So T(j+1), closed from them.
pub next_true : (p : Program) (valid : Valid p) (rules visits trues t f before seed after : List ℕ) → Stand 0 (rule_rows p) rules visits
    → Written (judged p.atoms) (joined_word trues t) before seed → ClosedTrue (rules_in rules visits) f seed after
    → NextTrue p trues t f before after
unfolding true_reduct
next_true p valid rules visits trues t f before seed after s w c =
    let n = judged p.atoms in
    let j = visited_judged p valid rules visits s in
    record {
      true_in = λ base l falses h a sub.
          let g : Reduct = record { seed = lane n l seed; allowed = full n; negated = lane n l f; undefined = false } in
          c.in_lane n j l h
          ∙ least_visited p valid rules visits s n g
          ∙ ap (λ (set : Set). least n (all_rules p) (record { seed = set; allowed = full n; negated = lane n l f; undefined = false }))
          (joined_lane p base l trues falses t before seed h a w)
          ∙ true_warm p (base + l) (lane n l f) (lane n l t) (record { at = sub });
      beyond = record { at = λ o h. (c.beyond n j).at o h ∙ w.beyond.at o h };
    }

-- What backs a literal besides its rules, in each lane.
pub backing_lane : (p : Program) (base l : ℕ) (trues falses truth before backing : List ℕ) → l < 64 → AbducibleLanes p base trues falses
    → Written (judged p.atoms) (backing_word p.atoms truth falses) before backing → (o : ℕ) → o < judged p.atoms
    → lane_bit l (get_or backing o 0) ≡ (conjugate_in p.atoms (lane (judged p.atoms) l truth) o or false_abducible p (base + l) o)
unfolding backing_word conjugate_in
backing_lane p base l trues falses truth before backing h a b o k =
    ap (lane_bit l) (b.at o k)
    ∙ lane_or l (cond (listed p.atoms o) (get_or truth (explicit_conjugate o) 0) 0) (get_or falses o 0)
    ∙ ap (λ (x : Bool). lane_bit l (cond (listed p.atoms o) (get_or truth (explicit_conjugate o) 0) 0) or x) (a.false_at l o h k)
    ∙ ap (λ (x : Bool). x or false_abducible p (base + l) o) (go (listed p.atoms o) refl)
  where
    go : (t : Bool) → listed p.atoms o ≡ t
        → lane_bit l (cond t (get_or truth (explicit_conjugate o) 0) 0) ≡ (t and has (lane (judged p.atoms) l truth) (explicit_conjugate o))
    go true e =
        let below = explicit_below p.atoms o (ltb-true o (2 * p.atoms) e) in
        sym (has_lane (judged p.atoms) l (explicit_conjugate o) truth (omega arith))
        ∙ sym (true_and (has (lane (judged p.atoms) l truth) (explicit_conjugate o)))
    go false e = lane_none l ∙ sym (false_and (has (lane (judged p.atoms) l truth) (explicit_conjugate o)))

-- So F(j+1), as the greatest set from the dual.
pub next_false : (p : Program) (valid : Valid p) (falses t old backing before after : List ℕ)
    → Written (judged p.atoms) (backing_word p.atoms t falses) old backing → FalseWords p t backing before after → NextFalse p falses t before after
next_false p valid falses t old backing before after w c = record {
  false_in = λ base l trues h a.
      lane_greatest p (base + l) l t backing before after h c (backing_lane p base l trues falses t old backing h a w)
      ∙ falsity_from_dual p valid (base + l) (lane (judged p.atoms) l t);
  beyond = c.beyond;
}
