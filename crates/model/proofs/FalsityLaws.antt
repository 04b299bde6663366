-- Falsity read from the dual equals falsity in the definition; and the greatest set is the greatest among the backed.
-- Assumes nothing.
use mathlib.Core.Path.{◌≡◌, refl, sym, ap, ◌∙◌}
use mathlib.Core.Bool.{Bool, true, false, not}
use mathlib.Core.List.{List, [], ◌∷◌}
use Prim.Native.Nat.{ℕ, zero, suc, ◌/◌, ◌<◌}
use native.Mathlib.Omega.{arith}
use lib.Dec.{T}
use lib.ListN.{length}
use Rattle.literals.specs.Numbering.{judged}
use Rattle.literals.specs.BodyLiterals.{body_literal}
use Rattle.papers.specs.Program.{Program, all_rules}
use Rattle.papers.specs.Content.{is_among}
use Rattle.papers.specs.Valid.{Valid}
use Rattle.dual.specs.Table.{Field, literal, fold, folds_of, is_fact, has_entry, dual}
use Rattle.papers.specs.Tests.{◌and◌, ◌or◌}
use Rattle.model.specs.Sets.{Set, has, empty, full, complement}
use Rattle.model.specs.Iteration.{iterate}
use Rattle.model.specs.Scenarios.{true_abducible, undefined_abducible, false_abducible}
use Rattle.model.specs.LeastSet.{supported, step, least}
use Rattle.model.specs.Model.{conjugate_in, possible_reduct, possible_set, false_set}
use Rattle.model.specs.Falsity.{some_holds, folds_hold, entry_holds, listed_by, backed, backed_set, greatest}
use Rattle.papers.proofs.TestLaws.{or_mono, and_mono, false_or, or_false, true_and, false_and, unless}
use Rattle.model.proofs.SetLaws.{Sub, has_set_of, length_set_of, set_of_in, set_of_of, set_of_mono, set_ext, sub_refl, sub_antisym, has_within}
use Rattle.model.proofs.SetLaws.{length_complement, has_complement, full_complement}
use Rattle.model.proofs.Fixpoints.{down_sized, down_fixed, down_greatest}
use Rattle.model.proofs.LeastLaws.{literal_mono, has_step}
use Rattle.model.proofs.ScenarioLaws.{abducible_split, other_possible, other_false, has_possible}
use Rattle.model.proofs.Fields.{entry_dual}
use Rattle.model.proofs.FoldsHold.{folds_dual, abducible_unsupported, fact_supported}

-- ---- greatest among the backed, over any fields

module _ (fields : List Field) (trues : Set) {set set' : Set} (h : Sub set set') where
  some_mono : (l : List ℕ) → T (some_holds trues set l) → T (some_holds trues set' l)
  unfolding some_holds
  some_mono [] t = t
  some_mono (l ∷ more) t = or_mono _ _ _ _ (literal_mono false false (λ u. u) sub_refl h (body_literal l)) (some_mono more) t

  folds_mono : (folds : List ℕ) → T (folds_hold fields trues set folds) → T (folds_hold fields trues set' folds)
  unfolding folds_hold
  folds_mono [] t = t
  folds_mono (k ∷ more) t = and_mono _ _ _ _ (some_mono (listed_by fields k)) (folds_mono more) t

  entry_mono : (rest : List Field) (o : ℕ) → T (entry_holds fields trues set rest o) → T (entry_holds fields trues set' rest o)
  unfolding entry_holds
  entry_mono [] o t = t
  entry_mono (fold k conjugates ∷ rest) o t = entry_mono rest o t
  entry_mono (literal q folds ∷ rest) o t =
      or_mono _ _ _ _ (and_mono _ _ _ _ (λ e. e) (folds_mono folds)) (entry_mono rest o) t

-- "Each o in it backed."
pub record Backed (p : Program) (s : ℕ) (fields : List Field) (trues set : Set) : Type 0 where
  pub sized : length set ≡ judged p.atoms
  pub each : (o : ℕ) → T (has set o) → T (backed p s fields trues set o)

module _ (p : Program) (s : ℕ) (fields : List Field) (trues : Set) where
  -- A larger set backs more.
  pub backed_more : {set set' : Set} → Sub set set' → (o : ℕ) → T (backed p s fields trues set o) → T (backed p s fields trues set' o)
  unfolding backed
  backed_more h o = or_mono _ _ _ _ (λ c. c) (or_mono _ _ _ _ (λ a. a) (entry_mono fields trues h fields o))

  backed_mono : (set set' : Set) → Sub set set' → Sub (backed_set p s fields trues set) (backed_set p s fields trues set')
  unfolding backed_set
  backed_mono set set' h = set_of_mono (judged p.atoms) _ _ (backed_more h)

  backed_length : (set : Set) → length (backed_set p s fields trues set) ≡ judged p.atoms
  unfolding backed_set
  backed_length set = length_set_of _ (judged p.atoms)

  pub greatest_length : length (greatest p s fields trues) ≡ judged p.atoms
  unfolding greatest
  greatest_length = down_sized (judged p.atoms) (backed_set p s fields trues) backed_length backed_mono (judged p.atoms)

  pub greatest_fixed : backed_set p s fields trues (greatest p s fields trues) ≡ greatest p s fields trues
  unfolding greatest
  greatest_fixed = down_fixed (judged p.atoms) (backed_set p s fields trues) backed_length backed_mono

  backed_sub : (set : Set) → Backed p s fields trues set → Sub set (backed_set p s fields trues set)
  unfolding backed_set
  backed_sub set b = record {
    at = λ o t. let w = has_within set o t in let l = b.sized in set_of_of (judged p.atoms) (backed p s fields trues set) o (omega arith) (b.each o t);
  }

  sub_backed : (set : Set) → length set ≡ judged p.atoms → Sub set (backed_set p s fields trues set) → Backed p s fields trues set
  unfolding backed_set
  sub_backed set e h = record {
    sized = e;
    each = λ o t. (set_of_in (judged p.atoms) (backed p s fields trues set) o (h.at o t)).1;
  }

  -- Each o in the greatest set is backed,
  pub greatest_backed : Backed p s fields trues (greatest p s fields trues)
  greatest_backed = sub_backed (greatest p s fields trues) greatest_length (rw greatest_fixed sub_refl)

  -- and every set with each o in it backed is in it.
  pub greatest_holds : (set : Set) → Backed p s fields trues set → Sub set (greatest p s fields trues)
  unfolding greatest
  greatest_holds set b =
      down_greatest (judged p.atoms) (backed_set p s fields trues) backed_length backed_mono set b.sized (backed_sub set b)

  -- A backed set that holds it is it, in whatever order it was thinned.
  pub greatest_is : (set : Set) → Backed p s fields trues set → Sub (greatest p s fields trues) set → set ≡ greatest p s fields trues
  greatest_is set b h = sub_antisym set (greatest p s fields trues) (b.sized ∙ sym greatest_length) (greatest_holds set b) h

  -- A backed set that holds every backed set is it.
  pub greatest_only : (set : Set) → Backed p s fields trues set → ((t : Set) → Backed p s fields trues t → Sub t set)
      → set ≡ greatest p s fields trues
  greatest_only set b h = greatest_is set b (h (greatest p s fields trues) greatest_backed)

-- ---- one step down the dual is one step up the rules

module _ (p : Program) (v : Valid p) (s : ℕ) (trues set : Set) where
  abbrev n : ℕ
  n = judged p.atoms

  abbrev possible : ℕ → Bool
  possible o = true_abducible p s o or undefined_abducible p s o

  abbrev supports : ℕ → Bool
  supports o = supported true set (complement n trues) (all_rules p) o

  abbrev entry_of : ℕ → Bool
  entry_of o = entry_holds (dual p) trues (complement n set) (dual p) o

  at_abducible : (o : ℕ) → o < n → is_among p.abducibles (o / 2) ≡ true → (false_abducible p s o or entry_of o) ≡ not (possible o or supports o)
  at_abducible o h e =
      rw (
        entry_dual (dual p) trues (complement n set) p o h,
        abducible_unsupported p v true set (complement n trues) o e,
        abducible_split p s o e,
        or_false (possible o),
        no_entry,
        false_and,
      )
      (or_false (not (possible o))) where
        no_entry : has_entry p o ≡ false
        no_entry = unfold has_entry in rw e

  at_other : (o : ℕ) → o < n → is_among p.abducibles (o / 2) ≡ false → (false_abducible p s o or entry_of o) ≡ not (possible o or supports o)
  at_other o h e =
      rw (entry_dual (dual p) trues (complement n set) p o h, other_false p s o e, other_possible p s o e)
      (false_or _ ∙ go (is_fact (all_rules p) o) refl ∙ ap not (sym (false_or (supports o)))) where
        entry_is : (b : Bool) → is_fact (all_rules p) o ≡ b → has_entry p o ≡ not b
        entry_is b q = unfold has_entry in rw (e, q)

        go : (b : Bool) → is_fact (all_rules p) o ≡ b
            → (has_entry p o and folds_hold (dual p) trues (complement n set) (folds_of p o)) ≡ not (supports o)
        go true q = rw (entry_is true q, fact_supported (all_rules p) true set (complement n trues) o q) (false_and _)
        go false q = rw (entry_is false q, true_and) (folds_dual p v set trues o h (entry_is false q))

  at_each : (o : ℕ) → o < n → (false_abducible p s o or entry_of o) ≡ not (possible o or supports o)
  at_each o h = go (is_among p.abducibles (o / 2)) refl where
    go : (b : Bool) → is_among p.abducibles (o / 2) ≡ b → (false_abducible p s o or entry_of o) ≡ not (possible o or supports o)
    go true e = at_abducible o h e
    go false e = at_other o h e

  has_allowed : (o : ℕ) → o < n → has (possible_reduct p s trues).allowed o ≡ not (conjugate_in p.atoms trues o)
  unfolding possible_reduct
  has_allowed o h = has_set_of _ n o h

  has_seed : (o : ℕ) → o < n → has (possible_reduct p s trues).seed o ≡ possible o
  unfolding possible_reduct
  has_seed o h = has_possible p s o h

  negated_is : (possible_reduct p s trues).negated ≡ complement n trues
  unfolding possible_reduct
  negated_is = refl

  undefined_is : (possible_reduct p s trues).undefined ≡ true
  unfolding possible_reduct
  undefined_is = refl

  has_backed : (o : ℕ) → o < n
      → has (backed_set p s (dual p) trues (complement n set)) o ≡ (conjugate_in p.atoms trues o or (false_abducible p s o or entry_of o))
  unfolding backed_set backed
  has_backed o h = has_set_of _ n o h

  step_at : (o : ℕ) → o < n
      → has (backed_set p s (dual p) trues (complement n set)) o ≡ has (complement n (step n (all_rules p) (possible_reduct p s trues) set)) o
  step_at o h =
      rw (
        has_backed o h,
        has_complement n (step n (all_rules p) (possible_reduct p s trues) set) o h,
        has_step n (all_rules p) (possible_reduct p s trues) set o h,
        has_allowed o h,
        has_seed o h,
        negated_is,
        undefined_is,
        at_each o h,
      )
      (unless (conjugate_in p.atoms trues o) (possible o or supports o))

  pub step_down : backed_set p s (dual p) trues (complement n set) ≡ complement n (step n (all_rules p) (possible_reduct p s trues) set)
  step_down =
      set_ext n _ _ (backed_length p s (dual p) trues (complement n set)) (length_complement n (step n (all_rules p) (possible_reduct p s trues) set)) step_at

-- ---- falsity

module _ (p : Program) (v : Valid p) (s : ℕ) (trues : Set) where
  steps_down : (j : ℕ) → iterate j (backed_set p s (dual p) trues) (full (judged p.atoms))
      ≡ complement (judged p.atoms) (iterate j (step (judged p.atoms) (all_rules p) (possible_reduct p s trues)) (empty (judged p.atoms)))
  unfolding iterate
  steps_down zero = full_complement (judged p.atoms)
  steps_down (suc j) = ap (backed_set p s (dual p) trues) (steps_down j) ∙ step_down p v s trues _

  -- "Falsity read from the dual table is falsity in the definition", for every T.
  pub falsity_from_dual : greatest p s (dual p) trues ≡ false_set p s trues
  unfolding greatest false_set possible_set least
  falsity_from_dual = steps_down (judged p.atoms)
