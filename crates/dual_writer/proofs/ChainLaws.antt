-- The chains of folds, as the pass that links them meets them.
-- Assumes nothing.
use mathlib.Core.Path.{◌≡◌, refl, sym, ap, subst, ◌∙◌}
use mathlib.Core.List.{List, [], ◌∷◌, ◌++◌, append_assoc, append-nil}
use Prim.Native.Nat.{ℕ, zero, suc, ◌+◌, ◌≤◌, ◌<◌}
use native.Mathlib.Decide.{ℕ_discrete}
use native.Mathlib.Numerals.{add-one}
use native.Mathlib.Omega.{arith}
use borrow.Author.Tests.{eq-eqb, ne_eqb}
use lib.ListN.{length, get_or, drop, set, replicate, length-append, length-set, length-replicate, get_or-replicate}
use lib.Seq.{drop-cons, drop-length, get_or-set_same, get_or-set_other}
use Rattle.std.proofs.Common.{Option, Some, None}
use Rattle.literals.specs.declared.Fold.{Fold}
use Rattle.papers.specs.Program.{Rule, Program, all_rules, no_rule}
use Rattle.dual.specs.Table.{folds_from, folds_of}
use Rattle.dual_writer.specs.Chains.{number_from, Chain, ends, link, followed, ChainsOf}

-- What comes before a chain's start does not matter to it.
frame : {next : List (Option Fold)} {ahead : Option Fold} {l : List ℕ} (i : ℕ) (v : Option Fold) → i < number_from ahead → Chain next ahead l
    → Chain (set next i v) ahead l
frame i v h ends = ends
frame {next = next} {ahead = Some k} i v h (link {more = more} few rises rest) =
    let same : get_or (set next i v) k.0 None ≡ get_or next k.0 None = get_or-set_other next i k.0 v None (λ e. omega arith) in
    let after = frame {next = next} {ahead = get_or next k.0 None} {l = more} i v (omega arith) rest in
    link few (rw same rises) (rw same after)

-- The rules from a fold on are linked.
pub record Linked (rules : List Rule) (fold : ℕ) (first next : List (Option Fold)) : Type 0 where
  pub firsts : length first ≡ 513
  pub nexts : length next ≡ 1280
  pub above : (o : ℕ) → o < 513 → fold ≤ number_from (get_or first o None)
  pub at : (o : ℕ) → o < 513 → Chain next (get_or first o None) (folds_from fold (drop fold rules) o)

pub linked_none : (rules : List Rule) → length rules ≤ 1280 → Linked rules (length rules) (replicate 513 None) (replicate 1280 None)
unfolding folds_from
linked_none rules few = record {
  firsts = length-replicate {A = Option Fold} 513 None;
  nexts = length-replicate {A = Option Fold} 1280 None;
  above = λ o h. rw (get_or-replicate {A = Option Fold} 513 o None None h) few;
  at = λ o h. rw (drop-length rules, get_or-replicate {A = Option Fold} 513 o None None h) ends;
}

module _ (rules : List Rule) (fold : Fold) (here : fold.0 < length rules) where
  one : drop fold.0 rules ≡ get_or rules fold.0 no_rule ∷ drop (fold.0 + 1) rules
  one = rw add-one (drop-cons rules fold.0 no_rule here)

  -- A fold joins the chain of its head,
  folds_same : (o : ℕ) → (get_or rules fold.0 no_rule).head ≡ o
      → folds_from fold.0 (drop fold.0 rules) o ≡ fold.0 ∷ folds_from (fold.0 + 1) (drop (fold.0 + 1) rules) o
  unfolding folds_from
  folds_same o e = rw (one, eq-eqb (get_or rules fold.0 no_rule).head o e)

  -- and no other.
  folds_other : (o : ℕ) → ((get_or rules fold.0 no_rule).head ≡ o → ⊥)
      → folds_from fold.0 (drop fold.0 rules) o ≡ folds_from (fold.0 + 1) (drop (fold.0 + 1) rules) o
  unfolding folds_from
  folds_other o e = rw (one, ne_eqb (get_or rules fold.0 no_rule).head o e)

  module _ (first next : List (Option Fold)) (few : fold.0 < 1280) (linked : Linked rules (fold.0 + 1) first next) {head : ℕ}
      (headed : head ≡ (get_or rules fold.0 no_rule).head) (within : head < 513) where
    -- The tables once the fold is linked, and what was its head's first.
    abbrev next_linked : List (Option Fold)
    next_linked = set next fold.0 (get_or first head None)

    abbrev first_linked : List (Option Fold)
    first_linked = set first head (Some fold)

    abbrev later : List ℕ
    later = folds_from (fold.0 + 1) (drop (fold.0 + 1) rules) head

    head_first : (o : ℕ) → o ≡ head → get_or first_linked o None ≡ Some fold
    head_first o e = rw e (get_or-set_same first head (Some fold) None (omega (arith, linked.firsts)))

    joined : (o : ℕ) → o ≡ head → Chain next_linked (get_or first_linked o None) (folds_from fold.0 (drop fold.0 rules) o)
    joined o e =
        let before = get_or first head None in
        let after : get_or next_linked fold.0 None ≡ before = get_or-set_same next fold.0 before None (omega (arith, linked.nexts)) in
        let above = linked.above head within in
        let rises : fold.0 < number_from (get_or next_linked fold.0 None) = rw after (omega arith) in
        let rest : Chain next_linked before later = frame fold.0 before (omega arith) (linked.at head within) in
        rw (head_first o e, folds_same o (sym headed ∙ sym e), e) (link {more = later} few rises (rw after rest))

    kept : (o : ℕ) → o < 513 → (o ≡ head → ⊥) → Chain next_linked (get_or first_linked o None) (folds_from fold.0 (drop fold.0 rules) o)
    kept o h e =
        let there : get_or first_linked o None ≡ get_or first o None = get_or-set_other first head o (Some fold) None e in
        let above = linked.above o h in
        rw (there, folds_other o (λ q. e (sym (headed ∙ q)))) (frame fold.0 (get_or first head None) (omega arith) (linked.at o h))

    pub linked_more : Linked rules fold.0 first_linked next_linked
    linked_more = record {
      firsts = simp length-set linked.firsts;
      nexts = simp length-set linked.nexts;
      above = λ o h. elim (ℕ_discrete o head) [
        | yes e ↦ (let there = ap number_from (head_first o e) in omega arith)
        | no e ↦ (let there = ap number_from (get_or-set_other first head o (Some fold) None e) in omega (arith, linked.above o h))
      ];
      at = λ o h. elim (ℕ_discrete o head) [
        | yes e ↦ joined o e
        | no e ↦ kept o h e
      ];
    }

pub linked_all : (p : Program) (first next : List (Option Fold)) → Linked (all_rules p) 0 first next → ChainsOf p first next
unfolding folds_of
linked_all p first next l = record { at = l.at }

-- ---- a chain that is walked

-- At a fold there is one more.
pub record Link (next : List (Option Fold)) (fold : Fold) (l : List ℕ) : Type 0 where
  pub more : List ℕ
  pub is : l ≡ fold.0 ∷ more
  pub few : fold.0 < 1280
  pub rises : fold.0 < number_from (get_or next fold.0 None)
  pub rest : Chain next (get_or next fold.0 None) more

pub at_fold : {next : List (Option Fold)} {fold : Fold} {l : List ℕ} → Chain next (Some fold) l → Link next fold l
at_fold (link {more = more} few rises rest) = record { more = more; is = refl; few = few; rises = rises; rest = rest }

-- Past the last there is none.
pub past_last : {next : List (Option Fold)} {l : List ℕ} → Chain next None l → l ≡ []
past_last ends = refl

-- The folds that are met are those of the chain.
pub followed_is : {next : List (Option Fold)} {l : List ℕ} (room : ℕ) (ahead : Option Fold) → 1280 ≤ room + number_from ahead → Chain next ahead l
    → followed room next ahead ≡ l
unfolding followed
followed_is zero None h ends = refl
followed_is (suc room) None h ends = refl
followed_is zero (Some k) h (link few rises rest) = absurd (omega arith)
followed_is {next = next} (suc room) (Some k) h (link few rises rest) =
    ap (λ (x : List ℕ). k.0 ∷ x) (followed_is room (get_or next k.0 None) (omega arith) rest)

-- A walk along a chain: what lies behind, and what is ahead.
pub record Following (next : List (Option Fold)) (l : List ℕ) (fold : Option Fold) (count : ℕ) : Type 0 where
  pub done : List ℕ
  pub ahead : List ℕ
  pub split : l ≡ done ++ ahead
  pub chain : Chain next fold ahead
  pub size : length done ≡ count
  pub few : count ≤ number_from fold

unfoldable pub following_starts : {next : List (Option Fold)} {l : List ℕ} {fold : Option Fold} → Chain next fold l → Following next l fold 0
following_starts {next} {l} {fold} c = record { done = []; ahead = l; split = refl; chain = c; size = refl; few = omega arith }

module _ (next : List (Option Fold)) (l : List ℕ) (ahead : Option Fold) (count : ℕ) (w : Following next l ahead count) where
  pub following_done : ahead ≡ None → (w.done ≡ l) × ((count ≡ length l) × (count ≤ 1280))
  following_done none =
      let p = past_last (subst (λ (x : Option Fold). Chain next x w.ahead) none w.chain) in
      let d : l ≡ w.done = w.split ∙ ap (λ (x : List ℕ). w.done ++ x) p ∙ append-nil w.done in
      let s = ap length d in
      let n = ap number_from none in
      (sym d, (omega (arith, w.size), omega (arith, w.few)))

  module _ (fold : Fold) (some : ahead ≡ Some fold) where
    pub following_link : Link next fold w.ahead
    following_link = at_fold (subst (λ (x : Option Fold). Chain next x w.ahead) some w.chain)

    -- There is one more fold in all.
    pub following_room : count < length l
    following_room =
        let s = ap length w.split in
        let n = ap length following_link.is in
        omega (arith, length-append w.done w.ahead, w.size)

    unfoldable pub following_next : Following next l (get_or next fold.0 None) (count + 1)
    following_next = record {
      done = w.done ++ fold.0 ∷ [];
      ahead = following_link.more;
      split = w.split ∙ ap (λ (x : List ℕ). w.done ++ x) following_link.is ∙ sym (append_assoc w.done (fold.0 ∷ []) following_link.more);
      chain = following_link.rest;
      size = simp length-append (omega (arith, w.size));
      few = let n = ap number_from some in omega (arith, w.few, following_link.rises);
    }
