-- "The longest dual is 52,488 bytes": no valid program has a longer one.
-- Assumes nothing.
use mathlib.Core.Path.{◌≡◌, refl}
use mathlib.Core.Bool.{Bool, true, false, cond}
use mathlib.Core.List.{List, [], ◌∷◌}
use Prim.Native.Nat.{ℕ, zero, suc, ◌+◌, ◌*◌, ◌≤◌, ◌<◌}
use native.Mathlib.Omega.{arith}
use borrow.Author.Tests.{eqb-true, ne_eqb}
use lib.Dec.{eqb}
use lib.ListN.{length}
use Rattle.literals.specs.Numbering.{judged}
use Rattle.papers.specs.Program.{Rule, Program, all_rules}
use Rattle.papers.specs.Valid.{All, none, each, Valid}
use Rattle.dual.specs.Table.{has_entry}
use Rattle.dual.specs.Length.{rule_length, rules_length, entries_length, dual_length}
use Rattle.papers.proofs.RuleLaws.{Fits, rules_sum, rules_fit}

-- ---- every rule counts under one head alone

-- The bytes of the rules whose heads are among `count` objective literals from o on, head by head.
heads_length : List Rule → ℕ → ℕ → ℕ
heads_length rules zero o = 0
heads_length rules (suc count) o = rules_length rules o + heads_length rules count (o + 1)

-- And those of all rules, rule by rule.
total_length : List Rule → ℕ
total_length [] = 0
total_length (r ∷ more) = rule_length r + total_length more

module _ (r : Rule) (more : List Rule) where
  -- Past its head a rule counts no more,
  past_head : (count o : ℕ) → r.head < o → heads_length (r ∷ more) count o ≡ heads_length more count o
  unfolding heads_length rules_length
  past_head zero o h = refl
  past_head (suc count) o h = rw (ne_eqb r.head o (omega arith), past_head count (o + 1) (omega arith))

  -- so it counts at most once.
  counts_once : (count o : ℕ) → heads_length (r ∷ more) count o ≤ rule_length r + heads_length more count o
  unfolding heads_length rules_length
  counts_once zero o = omega arith
  counts_once (suc count) o = go (eqb r.head o) refl (counts_once count (o + 1)) where
    go : (b : Bool) → eqb r.head o ≡ b → heads_length (r ∷ more) count (o + 1) ≤ rule_length r + heads_length more count (o + 1)
        → cond b (rule_length r + rules_length more o) (rules_length more o) + heads_length (r ∷ more) count (o + 1)
        ≤ rule_length r + (rules_length more o + heads_length more count (o + 1))
    go true t ih =
        let e = eqb-true r.head o t in
        let past = past_head count (o + 1) (omega arith) in
        omega arith
    go false t ih = omega arith

no_rules : (count o : ℕ) → heads_length [] count o ≡ 0
unfolding heads_length rules_length
no_rules zero o = refl
no_rules (suc count) o = rw (no_rules count (o + 1))

heads_bound : (rules : List Rule) (count o : ℕ) → heads_length rules count o ≤ total_length rules
unfolding total_length
heads_bound [] count o = let e = no_rules count o in omega arith
heads_bound (r ∷ more) count o =
    let one = counts_once r more count o in
    let ih = heads_bound more count o in
    omega arith

-- ---- the limits

-- 7 bytes, and 2 for each of at most 16 literals.
total_bound : (n : ℕ) (rules : List Rule) → All (Fits n) rules → total_length rules ≤ 39 * length rules
unfolding total_length rule_length
total_bound n [] none = omega arith
total_bound n (r ∷ more) (each f rest) =
    let few = f.body.few in
    let ih = total_bound n more rest in
    omega arith

-- An entry has 5 bytes besides its rules.
entries_bound : (p : Program) (count o : ℕ) → entries_length p count o ≤ 5 * count + heads_length (all_rules p) count o
unfolding entries_length heads_length
entries_bound p zero o = omega arith
entries_bound p (suc count) o = go (has_entry p o) (entries_bound p count (o + 1)) where
  go : (b : Bool) → entries_length p count (o + 1) ≤ 5 * count + heads_length (all_rules p) count (o + 1)
      → cond b (5 + rules_length (all_rules p) o) 0 + entries_length p count (o + 1)
      ≤ 5 * suc count + (rules_length (all_rules p) o + heads_length (all_rules p) count (o + 1))
  go true ih = omega arith
  go false ih = omega arith

-- 513 entries of 5 bytes, 1,280 rules of 39, and 3 for 7F.
pub dual_bound : (p : Program) → Valid p → dual_length p ≤ 52488
unfolding dual_length
dual_bound p v =
    let entries = entries_bound p (judged p.atoms) 0 in
    let heads = heads_bound (all_rules p) (judged p.atoms) 0 in
    let total = total_bound p.atoms (all_rules p) (rules_fit p v) in
    let sum = rules_sum p in
    omega arith
