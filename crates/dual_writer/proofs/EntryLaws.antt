-- The length of an entry, as the walk along a chain meets it.
-- Assumes nothing.
use mathlib.Core.Path.{◌≡◌, refl, sym, ap, subst, ◌∙◌}
use mathlib.Core.Bool.{Bool, true, false, not, cond}
use mathlib.Core.List.{List, [], ◌∷◌}
use Prim.Native.Nat.{ℕ, suc, ◌+◌, ◌-◌, ◌*◌, ◌/◌, ◌≤◌, ◌<◌}
use native.Mathlib.Omega.{arith}
use lib.Dec.{eqb}
use lib.ListN.{length, get_or, drop}
use Rattle.std.proofs.Common.{Option, Some, None, unwrap_or}
use Rattle.literals.specs.declared.Fold.{Fold}
use Rattle.papers.specs.Program.{Rule, Program, all_rules, no_rule}
use Rattle.papers.specs.Content.{is_among}
use borrow.Author.Tests.{ne_eqb}
use Rattle.papers.specs.Valid.{All, each, Valid}
use Rattle.papers.proofs.Lists.{first_of, at_place, past_place}
use Rattle.dual.specs.Table.{folds_from, folds_of, is_empty, is_fact, has_entry}
use Rattle.dual.specs.Length.{rule_length, rules_length, entries_length}
use Rattle.dual_writer.specs.Chains.{number_from, Chain, ChainsOf}
use Rattle.dual.proofs.Folds.{FoldIn, folds_of_tell}
use Rattle.dual_writer.proofs.ChainLaws.{Link, at_fold, past_last}

pub empty_length : (l : List ℕ) → length l ≡ 0 → is_empty l ≡ true
unfolding is_empty
empty_length [] e = refl
empty_length (x ∷ l) e = absurd (omega arith)

pub full_length : (l : List ℕ) → (length l ≡ 0 → ⊥) → is_empty l ≡ false
unfolding is_empty
full_length [] e = absurd (e refl)
full_length (x ∷ l) e = refl

-- What the walk answers from here on, with these bytes counted: none at a fact.
unfoldable pub walk : List Rule → ℕ → List ℕ → Option ℕ
walk rules total [] = Some total
walk rules total (k ∷ more) =
    cond (is_empty (get_or rules k no_rule).body) None (walk rules (total + (7 + 2 * length (get_or rules k no_rule).body)) more)

walk_step : (rules : List Rule) (total k : ℕ) (more : List ℕ) → is_empty (get_or rules k no_rule).body ≡ false
    → walk rules total (k ∷ more) ≡ walk rules (total + (7 + 2 * length (get_or rules k no_rule).body)) more
unfolding walk
walk_step rules total k more e = rw e

module _ (all : List Rule) (o : ℕ) where
  walk_folds : (j total : ℕ) (rules : List Rule) → drop j all ≡ rules
      → walk all total (folds_from j rules o) ≡ cond (is_fact rules o) None (Some (total + rules_length rules o))
  unfolding walk folds_from is_fact rules_length rule_length
  walk_folds j total [] e = let z : total ≡ total + 0 = omega arith in ap Some z
  walk_folds j total (r ∷ more) e = go (eqb r.head o) (is_empty r.body) refl (λ t. walk_folds (j + 1) t more (past_place all j e))
    where
      go : (a b : Bool) → is_empty r.body ≡ b
          → ((t : ℕ) → walk all t (folds_from (j + 1) more o) ≡ cond (is_fact more o) None (Some (t + rules_length more o)))
          → walk all total (cond a (j ∷ folds_from (j + 1) more o) (folds_from (j + 1) more o))
          ≡ cond (cond a (cond (is_empty r.body) true (is_fact more o)) (is_fact more o)) None
          (Some (total + cond a (rule_length r + rules_length more o) (rules_length more o)))
      go false b z ih = ih total
      go true true z ih = rw (at_place all j e no_rule, z)
      go true false z ih =
          let s : total + (7 + 2 * length r.body) + rules_length more o ≡ total + (7 + 2 * length r.body + rules_length more o) = omega arith in
          rw (at_place all j e no_rule, z)
          (ih (total + (7 + 2 * length r.body)) ∙ ap (λ (k : ℕ). cond (is_fact more o) None (Some k)) s)

pub walk_all : (p : Program) (o : ℕ)
    → walk (all_rules p) 5 (folds_of p o) ≡ cond (is_fact (all_rules p) o) None (Some (5 + rules_length (all_rules p) o))
unfolding folds_of
walk_all p o = walk_folds (all_rules p) o 0 5 (all_rules p) refl

-- ---- the loop

-- The walk has come to a fold, with these bytes counted.
pub record Walking (p : Program) (next : List (Option Fold)) (o : ℕ) (ahead : Option Fold) (total : ℕ) : Type 0 where
  pub list : List ℕ
  pub chain : Chain next ahead list
  pub folds : All (FoldIn (all_rules p) o) list
  pub answer : walk (all_rules p) 5 (folds_of p o) ≡ walk (all_rules p) total list
  pub bound : total ≤ 5 + 39 * number_from ahead

pub walk_starts : (p : Program) (first next : List (Option Fold)) (o : ℕ) → ChainsOf p first next → o < 513
    → Walking p next o (get_or first o None) 5
walk_starts p first next o c h = record {
  list = folds_of p o;
  chain = c.at o h;
  folds = folds_of_tell p o;
  answer = refl;
  bound = omega arith;
}

module _ (p : Program) (next : List (Option Fold)) (o : ℕ) (ahead : Option Fold) (total : ℕ) (w : Walking p next o ahead total) where
  pub walk_done : ahead ≡ None → (Some total ≡ walk (all_rules p) 5 (folds_of p o)) × (total < 65536)
  unfolding walk
  walk_done none =
      let l = past_last (subst (λ (x : Option Fold). Chain next x w.list) none w.chain) in
      let n = ap number_from none in
      (sym (w.answer ∙ ap (walk (all_rules p) total) l), omega (arith, w.bound))

  module _ (fold : Fold) (some : ahead ≡ Some fold) where
    pub linked : Link next fold w.list
    linked = at_fold (subst (λ (x : Option Fold). Chain next x w.list) some w.chain)

    pub walk_fold : FoldIn (all_rules p) o fold.0
    walk_fold = (first_of (subst (All (FoldIn (all_rules p) o)) linked.is w.folds)).0

    pub walk_bound : total ≤ 5 + 39 * fold.0
    walk_bound = let n = ap number_from some in omega (arith, w.bound)

    pub walk_fact : length (get_or (all_rules p) fold.0 no_rule).body ≡ 0 → None ≡ walk (all_rules p) 5 (folds_of p o)
    unfolding walk
    walk_fact e = sym (w.answer ∙ rw (linked.is, empty_length (get_or (all_rules p) fold.0 no_rule).body e))

    pub walk_next : (size : ℕ) → size ≡ 2 * length (get_or (all_rules p) fold.0 no_rule).body → (size ≡ 0 → ⊥) → size ≤ 32
        → Walking p next o (get_or next fold.0 None) (total + (7 + size))
    walk_next size e n few = record {
      list = linked.more;
      chain = linked.rest;
      folds = (first_of (subst (All (FoldIn (all_rules p) o)) linked.is w.folds)).1;
      answer =
          w.answer
          ∙ ap (walk (all_rules p) total) linked.is
          ∙ walk_step (all_rules p) total fold.0 linked.more (full_length (get_or (all_rules p) fold.0 no_rule).body (λ z. n (omega arith)))
          ∙ ap (λ (k : ℕ). walk (all_rules p) (total + (7 + k)) linked.more) (sym e);
      bound = omega (arith, walk_bound, linked.rises);
    }

-- ---- an entry, and all of them

-- An entry is by its rules, where it is no abducible's.
-- Numbers from 2n on are of no abducible: abducibles are below n.
among_below : (n : ℕ) (l : List ℕ) → All (◌< n) l → (x : ℕ) → n ≤ x → is_among l x ≡ false
unfolding is_among
among_below n [] below x h = refl
among_below n (a ∷ more) (each p rest) x h = rw (ne_eqb a x (λ e. omega arith)) (among_below n more rest x h)

pub unlisted_among : (p : Program) → Valid p → (o : ℕ) → 2 * p.atoms ≤ o → is_among p.abducibles (o / 2) ≡ false
unlisted_among p v o h = among_below p.atoms p.abducibles v.abducibles_listed (o / 2) (omega arith)

pub entry_among : (p : Program) (o : ℕ) → is_among p.abducibles (o / 2) ≡ true → None ≡ cond (has_entry p o) (Some (5 + rules_length (all_rules p) o)) None
unfolding has_entry
entry_among p o e = rw e

pub entry_rules : (p : Program) (o : ℕ) → is_among p.abducibles (o / 2) ≡ false
    → cond (is_fact (all_rules p) o) None (Some (5 + rules_length (all_rules p) o))
    ≡ cond (has_entry p o) (Some (5 + rules_length (all_rules p) o)) None
unfolding has_entry
entry_rules p o e = rw e (go (is_fact (all_rules p) o)) where
  go : (b : Bool) → cond b None (Some (5 + rules_length (all_rules p) o)) ≡ cond (not b) (Some (5 + rules_length (all_rules p) o)) None
  go true = refl
  go false = refl

-- One objective literal more.
pub entries_next : (p : Program) (count o total : ℕ) {entry : Option ℕ} → o < count
    → entry ≡ cond (has_entry p o) (Some (5 + rules_length (all_rules p) o)) None
    → total + entries_length p (count - o) o ≡ total + unwrap_or entry 0 + entries_length p (count - (o + 1)) (o + 1)
unfolding entries_length
entries_next p count o total {entry} h e =
    let s : count - o ≡ suc (count - (o + 1)) = omega arith in
    let size : unwrap_or entry 0 ≡ cond (has_entry p o) (5 + rules_length (all_rules p) o) 0 = rw e (go (has_entry p o)) in
    rw (s, ← size) (omega arith)
  where
    go : (b : Bool) → unwrap_or (cond b (Some (5 + rules_length (all_rules p) o)) None) 0 ≡ cond b (5 + rules_length (all_rules p) o) 0
    go true = refl
    go false = refl

pub entries_none : (p : Program) (count o : ℕ) → count ≤ o → entries_length p (count - o) o ≡ 0
unfolding entries_length
entries_none p count o h = let s : count - o ≡ 0 = omega arith in rw s
