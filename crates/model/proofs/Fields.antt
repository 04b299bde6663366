-- The fields of a program's dual, looked up: a fold's 09 field lists the default conjugates of its rule's body; o's 08 field its folds.
-- Assumes nothing.
use mathlib.Core.Path.{◌≡◌, refl, sym, ap, ◌∙◌}
use mathlib.Core.Bool.{Bool, true, false, cond, true≢false}
use mathlib.Core.List.{List, [], ◌∷◌, ◌++◌, map}
use Prim.Native.Nat.{ℕ, zero, suc, ◌+◌, ◌≤◌, ◌<◌}
use native.Mathlib.Omega.{arith}
use native.Mathlib.Decide.{ℕ_discrete}
use borrow.Author.Tests.{eq-eqb, ne_eqb, eqb-true}
use lib.Dec.{eqb}
use lib.ListN.{get_or}
use Rattle.literals.specs.Numbering.{judged}
use Rattle.literals.specs.BodyLiterals.{conjugate_number}
use Rattle.papers.specs.Program.{Rule, Program, all_rules, no_rule}
use Rattle.papers.specs.Content.{is_among}
use Rattle.dual.specs.Table.{Field, folds_of, has_entry, fold_field, entry, entries_from, dual}
use Rattle.dual.proofs.Folds.{FoldIn, folds_of_among}
use Rattle.papers.specs.Tests.{◌and◌, ◌or◌}
use Rattle.model.specs.Sets.{Set}
use Rattle.model.specs.Falsity.{listed_by, folds_hold, entry_holds}
use Rattle.papers.proofs.TestLaws.{or_false, false_or, false_and, true_and}

-- The default conjugates of a rule's body.
abbrev pub conjugates : List Rule → ℕ → List ℕ
conjugates rules k = map conjugate_number (get_or rules k no_rule).body

-- ---- the 09 field of a fold

module _ (rules : List Rule) (rest : List Field) (k : ℕ) where
  listed_among : (folds : List ℕ) → is_among folds k ≡ true → listed_by (map (fold_field rules) folds ++ rest) k ≡ conjugates rules k
  unfolding is_among listed_by fold_field
  listed_among [] e = absurd (true≢false (sym e))
  listed_among (j ∷ more) e = go (eqb j k) refl e (listed_among more) where
    go : (b : Bool) → eqb j k ≡ b → cond b true (is_among more k) ≡ true
        → (is_among more k ≡ true → listed_by (map (fold_field rules) more ++ rest) k ≡ conjugates rules k)
        → cond b (conjugates rules j) (listed_by (map (fold_field rules) more ++ rest) k) ≡ conjugates rules k
    go true q e ih = ap (conjugates rules) (eqb-true j k q)
    go false q e ih = ih e

  listed_past : (folds : List ℕ) → is_among folds k ≡ false → listed_by (map (fold_field rules) folds ++ rest) k ≡ listed_by rest k
  unfolding is_among listed_by fold_field
  listed_past [] e = refl
  listed_past (j ∷ more) e = go (eqb j k) e (listed_past more) where
    go : (b : Bool) → cond b true (is_among more k) ≡ false
        → (is_among more k ≡ false → listed_by (map (fold_field rules) more ++ rest) k ≡ listed_by rest k)
        → cond b (conjugates rules j) (listed_by (map (fold_field rules) more ++ rest) k) ≡ listed_by rest k
    go true e ih = absurd (true≢false e)
    go false e ih = ih e

-- An entry in front of other fields: where it has the fold, and where it has not.
listed_entry : (p : Program) (rest : List Field) (k q : ℕ) → is_among (folds_of p q) k ≡ true → listed_by (entry p q ++ rest) k ≡ conjugates (all_rules p) k
unfolding entry listed_by
listed_entry p rest k q e = listed_among (all_rules p) rest k (folds_of p q) e

listed_later : (p : Program) (rest : List Field) (k q : ℕ) → is_among (folds_of p q) k ≡ false → listed_by (entry p q ++ rest) k ≡ listed_by rest k
unfolding entry listed_by
listed_later p rest k q e = listed_past (all_rules p) rest k (folds_of p q) e

-- Either way the fold is found, if it is found in them.
listed_either : (p : Program) (rest : List Field) (k q : ℕ) (b : Bool) → listed_by rest k ≡ conjugates (all_rules p) k
    → listed_by (cond b (entry p q) [] ++ rest) k ≡ conjugates (all_rules p) k
listed_either p rest k q false ih = ih
listed_either p rest k q true ih = go (is_among (folds_of p q) k) refl where
  go : (b : Bool) → is_among (folds_of p q) k ≡ b → listed_by (entry p q ++ rest) k ≡ conjugates (all_rules p) k
  go true e = listed_entry p rest k q e
  go false e = listed_later p rest k q e ∙ ih

module _ (p : Program) (o k : ℕ) (has-entry : has_entry p o ≡ true) (f : FoldIn (all_rules p) o k) where
  -- Past the literals before o.
  listed_entries : (count q : ℕ) → q ≤ o → o < q + count → listed_by (entries_from p count q) k ≡ conjugates (all_rules p) k
  unfolding entries_from
  listed_entries zero q h l = absurd (omega arith)
  listed_entries (suc count) q h l = elim (ℕ_discrete q o) [
    | yes e ↦ rw (e, has-entry) (listed_entry p (entries_from p count (o + 1)) k o (folds_of_among p o k f))
    | no ne ↦
        listed_either p (entries_from p count (q + 1)) k q (has_entry p q) (listed_entries count (q + 1) (omega arith) (omega arith))
  ]

  pub listed_dual : o < judged p.atoms → listed_by (dual p) k ≡ conjugates (all_rules p) k
  unfolding dual
  listed_dual h = listed_entries (judged p.atoms) 0 (omega arith) (omega arith)

-- ---- the 08 field of a literal

module _ (fields : List Field) (trues set : Set) where
  -- The 09 fields say nothing of a literal,
  entry_past : (rules : List Rule) (rest : List Field) (o : ℕ) (folds : List ℕ)
      → entry_holds fields trues set (map (fold_field rules) folds ++ rest) o ≡ entry_holds fields trues set rest o
  unfolding entry_holds fold_field
  entry_past rules rest o [] = refl
  entry_past rules rest o (k ∷ more) = entry_past rules rest o more

  module _ (p : Program) where
    -- and an entry says of its literal alone.
    entry_first : (rest : List Field) (q o : ℕ)
        → entry_holds fields trues set (entry p q ++ rest) o ≡ (eqb q o and folds_hold fields trues set (folds_of p q) or entry_holds fields trues set rest o)
    unfolding entry entry_holds
    entry_first rest q o = rw (entry_past (all_rules p) rest o (folds_of p q))

    entries_after : (count q o : ℕ) → o < q → entry_holds fields trues set (entries_from p count q) o ≡ false
    unfolding entries_from
    entries_after zero q o h = unfold entry_holds in refl
    entries_after (suc count) q o h = go (has_entry p q) (entries_after count (q + 1) o (omega arith)) where
      go : (b : Bool) → entry_holds fields trues set (entries_from p count (q + 1)) o ≡ false
          → entry_holds fields trues set (cond b (entry p q) [] ++ entries_from p count (q + 1)) o ≡ false
      go true ih = entry_first (entries_from p count (q + 1)) q o ∙ rw (ne_eqb q o (omega arith), false_and, ih) (false_or false)
      go false ih = ih

    entries_at : (count q o : ℕ) → q ≤ o → o < q + count
        → entry_holds fields trues set (entries_from p count q) o ≡ (has_entry p o and folds_hold fields trues set (folds_of p o))
    unfolding entries_from
    entries_at zero q o h l = absurd (omega arith)
    entries_at (suc count) q o h l =
        elim (ℕ_discrete q o) [
          | yes e ↦ rw e (here (has_entry p o) (entries_after count (o + 1) o (omega arith)))
          | no ne ↦ past (has_entry p q) (ne_eqb q o ne) (entries_at count (q + 1) o (omega arith) (omega arith))
        ] where
          here : (b : Bool) → entry_holds fields trues set (entries_from p count (o + 1)) o ≡ false
              → entry_holds fields trues set (cond b (entry p o) [] ++ entries_from p count (o + 1)) o ≡ (b and folds_hold fields trues set (folds_of p o))
          here true e =
              entry_first (entries_from p count (o + 1)) o o
              ∙ rw (eq-eqb o o refl, true_and, e) (or_false (folds_hold fields trues set (folds_of p o)))
          here false e = e ∙ sym (false_and (folds_hold fields trues set (folds_of p o)))

          past : (b : Bool) → eqb q o ≡ false
              → entry_holds fields trues set (entries_from p count (q + 1)) o ≡ (has_entry p o and folds_hold fields trues set (folds_of p o))
              → entry_holds fields trues set (cond b (entry p q) [] ++ entries_from p count (q + 1)) o
              ≡ (has_entry p o and folds_hold fields trues set (folds_of p o))
          past true ne ih = entry_first (entries_from p count (q + 1)) q o ∙ rw (ne, false_and, false_or) ih
          past false ne ih = ih

    pub entry_dual : (o : ℕ) → o < judged p.atoms
        → entry_holds fields trues set (dual p) o ≡ (has_entry p o and folds_hold fields trues set (folds_of p o))
    unfolding dual
    entry_dual o h = entries_at (judged p.atoms) 0 o (omega arith) (omega arith)
