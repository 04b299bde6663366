-- The rules at the visited places are those of the program, in whatever order: so they have the same least sets.
-- Assumes nothing.
use mathlib.Core.Path.{◌≡◌, refl, sym, ap, ◌∙◌}
use mathlib.Core.Bool.{Bool, true, false}
use mathlib.Core.List.{List}
use Prim.Native.Nat.{ℕ, ◌+◌, ◌≤◌, ◌<◌}
use native.Mathlib.Omega.{arith}
use lib.Dec.{T}
use lib.ListN.{length, get_or, take, drop}
use Rattle.literals.specs.Numbering.{judged}
use Rattle.literals.proofs.BodyLaws.{listed_below}
use Rattle.papers.specs.Program.{Rule, Program, no_rule, all_rules, rule_at}
use Rattle.papers.specs.Valid.{Valid}
use Rattle.papers.proofs.Lists.{all_each}
use Rattle.papers.proofs.RuleLaws.{rule_fitting, head_within}
use Rattle.parts.specs.Parts.{place_of, Parted}
use Rattle.parts.proofs.MarkedParts.{place_at}
use Rattle.rows.specs.Rows.{rule_row, rule_rows, StandsAt, Stand}
use Rattle.rows.proofs.RowLaws.{rule_rows_count, rule_row_at}
use Rattle.rows.proofs.StandLaws.{stands_first, stands_after, stands_part}
use Rattle.papers.specs.Tests.{◌and◌, ◌or◌}
use Rattle.model.specs.Sets.{Set, has, set_of, empty}
use Rattle.model.specs.Iteration.{iterate}
use Rattle.model.specs.LeastSet.{supported, Reduct, step, least}
use Rattle.model.proofs.Support.{supported_tells, supported_is}
use Rattle.lanes.specs.Words.{Literals}
use Rattle.lanes.proofs.WordLaws.{literals_of}
use Rattle.closing.specs.Closing.{rule_in, rules_in, RulesStand, Judged}
use Rattle.closing.proofs.ClosingLaws.{length_rules, rule_visited}

-- ---- least sets by what the rules support

same_test : (a b : Bool) → (T a → T b) → (T b → T a) → a ≡ b
same_test true true f g = refl
same_test true false f g = absurd (f tt)
same_test false true f g = absurd (g tt)
same_test false false f g = refl

least_by_support : (n : ℕ) (rules others : List Rule) (g : Reduct)
    → ((s : Set) (o : ℕ) → supported g.undefined s g.negated rules o ≡ supported g.undefined s g.negated others o)
    → least n rules g ≡ least n others g
unfolding least step
least_by_support n rules others g e = λ i. iterate n (λ s. set_of n (λ o. has g.allowed o and (has g.seed o or e s o i))) (empty n)

-- ---- a rule at its place

rule_stands : (r : Rule) (rows : List ℕ) (place : ℕ) → StandsAt (rule_row r) rows place → rule_in rows place ≡ r
unfolding rule_in rule_row
rule_stands r rows place s =
    let body = stands_after (stands_after s) in
    let q : place + 1 + 1 ≡ place + 2 = omega arith in
    let e : take (get_or rows (place + 1) 0) (drop (place + 2) rows) ≡ r.body =
    ap (λ (k : ℕ). take k (drop (place + 2) rows)) (stands_first (stands_after s))
    ∙ ap (λ (k : ℕ). take (length r.body) (drop k rows)) (sym q)
    ∙ stands_part r.body rows (place + 1 + 1) body in
    λ i. record { head = stands_first s i; body = e i }

row_within : (r : Rule) (rows : List ℕ) (place : ℕ) → StandsAt (rule_row r) rows place → place + 2 + get_or rows (place + 1) 0 ≤ length rows
unfolding rule_row
row_within r rows place s = let w = s.within in omega (arith, stands_first (stands_after s))

-- ---- the visited rules

module _ (p : Program) (valid : Valid p) (rows visits : List ℕ) (s : Stand 0 (rule_rows p) rows visits) where
  stands : (k : ℕ) → k < length (all_rules p) → StandsAt (rule_row (rule_at p k)) rows (get_or s.starts k 0)
  stands k h = rw (rule_row_at p k h) at (s.each k (omega (arith, rule_rows_count p)))

  -- The rule of a visit is one of the program's,
  abbrev fold : ℕ → ℕ
  fold i = s.visited.row_of i

  fold_below : (i : ℕ) → i < length visits → fold i < length (all_rules p)
  fold_below i h = let m = (s.visited.each i (omega (arith, s.sized))).row_below in omega (arith, rule_rows_count p)

  abbrev place : ℕ → ℕ
  place i = place_of (get_or visits i 0)

  visited_stands : (i : ℕ) → i < length visits → StandsAt (rule_row (rule_at p (fold i))) rows (place i)
  visited_stands i h =
      rw (sym (place_at visits i h) ∙ (s.visited.each i (omega (arith, s.sized))).meets) (stands (fold i) (fold_below i h))

  visited_rule_lem : (i : ℕ) → i < length visits → get_or (rules_in rows visits) i no_rule ≡ rule_at p (fold i)
  visited_rule_lem i h = rule_visited rows visits i h ∙ rule_stands (rule_at p (fold i)) rows (place i) (visited_stands i h)

  -- and each of the program's is visited.
  abbrev visit : ℕ → ℕ
  visit k = s.visited.visit_of k

  visit_below : (k : ℕ) → k < length (all_rules p) → visit k < length visits
  visit_below k h = let m = (s.visited.every k (omega (arith, rule_rows_count p))).visit_below in omega (arith, s.sized)

  every_rule : (k : ℕ) → k < length (all_rules p) → get_or (rules_in rows visits) (visit k) no_rule ≡ rule_at p k
  every_rule k h =
      let m = s.visited.every k (omega (arith, rule_rows_count p)) in
      rule_visited rows visits (visit k) (visit_below k h)
      ∙ ap (rule_in rows) (sym (place_at visits (visit k) (visit_below k h)) ∙ m.meets)
      ∙ rule_stands (rule_at p k) rows (get_or s.starts k 0) (stands k h)

  judged_body : (k : ℕ) → k < length (all_rules p) → Literals (judged p.atoms) (rule_at p k).body
  judged_body k h = record { below = all_each (listed_below p.atoms) (rule_fitting p valid k h).body.listed }

  pub visited_judged : Judged (judged p.atoms) (rules_in rows visits)
  visited_judged = record {
    few = omega (arith, valid.few_atoms);
    head = λ i h.
        let w : i < length visits = omega (arith, length_rules rows visits) in
        rw (visited_rule_lem i w) (omega (arith, head_within p valid (fold i) (fold_below i w)));
    body = λ i h.
        let w : i < length visits = omega (arith, length_rules rows visits) in
        rw (visited_rule_lem i w) (judged_body (fold i) (fold_below i w));
  }

  pub rules_stand : RulesStand rows visits
  rules_stand = record {
    at = λ i h.
        let e = rule_stands (rule_at p (fold i)) rows (place i) (visited_stands i h) in
        record {
          within = row_within (rule_at p (fold i)) rows (place i) (visited_stands i h);
          head = rw e (omega (arith, head_within p valid (fold i) (fold_below i h), valid.few_atoms));
          body = rw e (literals_of (omega (arith, valid.few_atoms)) (judged_body (fold i) (fold_below i h)));
        };
  }

  pub rules_parted : Parted 0 (length visits) rows visits
  rules_parted = rw s.sized s.parted

  supported_same : (undefined : Bool) (set negated : Set) (o : ℕ)
      → supported undefined set negated (rules_in rows visits) o ≡ supported undefined set negated (all_rules p) o
  supported_same undefined set negated o =
      same_test _ _
      (λ t.
      let f = supported_tells undefined set negated (rules_in rows visits) o t in
      let w : f.0 < length visits = omega (arith, length_rules rows visits, f.1.below) in
      let e = visited_rule_lem f.0 w in
      supported_is undefined set negated (all_rules p) o (fold f.0)
      (record { below = fold_below f.0 w; heads = rw e at f.1.heads; body = rw e at f.1.body }))
      (λ t.
      let f = supported_tells undefined set negated (all_rules p) o t in
      let e = every_rule f.0 f.1.below in
      supported_is undefined set negated (rules_in rows visits) o (visit f.0)
      (record {
        below = omega (arith, length_rules rows visits, visit_below f.0 f.1.below);
        heads = rw e f.1.heads;
        body = rw e f.1.body;
      }))

  pub least_visited : (n : ℕ) (g : Reduct) → least n (rules_in rows visits) g ≡ least n (all_rules p) g
  least_visited n g = least_by_support n (rules_in rows visits) (all_rules p) g (λ set o. supported_same g.undefined set g.negated o)
