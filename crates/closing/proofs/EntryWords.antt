-- The word of an entry, as the loop over its clauses meets them.
-- Assumes nothing.
use mathlib.Core.Path.{◌≡◌, refl, sym, ap, ◌∙◌}
use mathlib.Core.Bool.{Bool, true, false, cond}
use mathlib.Core.List.{List, [], ◌∷◌, ◌++◌, map}
use Prim.Native.Nat.{ℕ, ◌+◌, ◌-◌, ◌*◌, ◌/◌, ◌≤◌, ◌<◌}
use native.Mathlib.Omega.{arith}
use lib.Bits.{bit_and}
use lib.ListN.{length, get_or, take, drop, length-append}
use lib.Seq.{take-append_seam, drop-append_seam}
use Rattle.literals.specs.Numbering.{judged}
use Rattle.literals.specs.BodyLiterals.{body_literal, conjugate_number, Below}
use Rattle.literals.proofs.BodyLaws.{conjugate_read, listed_below, conjugate_below, below_named}
use Rattle.papers.specs.Program.{Program, all_rules}
use Rattle.papers.specs.Valid.{Valid, All, none, each, InBody}
use Rattle.papers.proofs.Lists.{all_map, first_of}
use Rattle.papers.proofs.RuleLaws.{rule_fitting}
use Rattle.dual.specs.Table.{folds_of, has_entry, dual}
use Rattle.dual.proofs.Folds.{FoldIn, folds_of_tell}
use Rattle.rows.specs.Rows.{clauses_row, clause_of, clauses_of, entry_row, StandsAt}
use Rattle.rows.proofs.StandLaws.{stands_first, stands_after, stands_part}
use Rattle.papers.specs.Tests.{◌and◌}
use Rattle.model.specs.Sets.{Set}
use Rattle.model.specs.Falsity.{some_holds, folds_hold, entry_holds}
use Rattle.papers.proofs.TestLaws.{true_and, and_true, false_and, and_assoc}
use Rattle.model.proofs.Fields.{entry_dual, listed_dual}
use Rattle.lanes.specs.Lanes.{lane_bit, lane}
use Rattle.lanes.specs.Words.{Literals}
use Rattle.lanes.proofs.LaneLaws.{lane_and, lane_none}
use Rattle.closing.specs.FalseWords.{EntryStands, SomeWord, EntryWord}

-- ---- an entry by its clauses

-- Each of these clauses has a literal that holds.
unfoldable pub clauses_hold : Set → Set → List (List ℕ) → Bool
clauses_hold trues set [] = true
clauses_hold trues set (clause ∷ more) = some_holds trues set clause and clauses_hold trues set more

module _ (p : Program) (trues set : Set) (o : ℕ) (within : o < judged p.atoms) where
  by_folds : has_entry p o ≡ true → {folds : List ℕ} → All (FoldIn (all_rules p) o) folds
      → folds_hold (dual p) trues set folds ≡ clauses_hold trues set (map (clause_of p) folds)
  unfolding folds_hold clauses_hold
  by_folds e none = refl
  by_folds e (each {a} {more} f rest) =
      rw (by_folds e rest)
      (ap (λ (listed : List ℕ). some_holds trues set listed and clauses_hold trues set (map (clause_of p) more)) (listed_dual p o a e f within))

  pub entry_clauses : entry_holds (dual p) trues set (dual p) o ≡ clauses_hold trues set (clauses_of p o)
  unfolding clauses_of clauses_hold some_holds
  entry_clauses = entry_dual (dual p) trues set p o within ∙ go (has_entry p o) refl where
    go : (b : Bool) → has_entry p o ≡ b → (b and folds_hold (dual p) trues set (folds_of p o)) ≡ clauses_hold trues set (clauses_of p o)
    go true e = true_and (folds_hold (dual p) trues set (folds_of p o)) ∙ rw e (by_folds e (folds_of_tell p o))
    go false e = false_and (folds_hold (dual p) trues set (folds_of p o)) ∙ rw e (sym (false_and true))

-- Its literals are judged.
clauses_below : (p : Program) → Valid p → (o : ℕ) → All (Literals (judged p.atoms)) (clauses_of p o)
unfolding clauses_of
clauses_below p v o = go (has_entry p o) where
  below : (x : ℕ) → InBody p.atoms x → Below (judged p.atoms) (body_literal (conjugate_number x))
  below x l =
      let h = listed_below p.atoms x l in
      rw (conjugate_read x (below_named (judged p.atoms) x (omega (arith, v.few_atoms)) h)) (conjugate_below (judged p.atoms) (body_literal x) h)

  go : (b : Bool) → All (Literals (judged p.atoms)) (cond b (map (clause_of p) (folds_of p o)) ([] ∷ []))
  go true =
      all_map (clause_of p)
      (λ k f. record { below = all_map conjugate_number below (rule_fitting p v k f.below).body.listed }) (folds_of_tell p o)
  go false = each (record { below = none }) none

-- ---- the loop

-- Of the lanes, each clause has a literal that holds in those of the word in which the clauses that are still to come have one: they are left.
pub record EntryTo (p : Program) (o : ℕ) (truth falses left : List ℕ) (lanes word : ℕ) : Type 0 where
  pub clauses : List (List ℕ)
  pub below : All (Literals (judged p.atoms)) clauses
  pub is : left ≡ clauses_row clauses
  pub holds : (l : ℕ)
      → (lane_bit l lanes and clauses_hold (lane (judged p.atoms) l truth) (lane (judged p.atoms) l falses) (clauses_of p o))
      ≡ (lane_bit l word and clauses_hold (lane (judged p.atoms) l truth) (lane (judged p.atoms) l falses) clauses)

module _ (p : Program) (rows : List ℕ) (place : ℕ) (truth falses : List ℕ) (lanes : ℕ) (s : EntryStands p rows place) where
  abbrev o : ℕ
  o = get_or rows place 0

  -- How many numbers its clauses take.
  entry_size : get_or rows (place + 1) 0 ≡ length (clauses_row (clauses_of p o))
  unfolding entry_row
  entry_size = stands_first (stands_after s.stands)

  pub entry_within : place + 2 + get_or rows (place + 1) 0 ≤ length rows
  unfolding entry_row
  entry_within = let w = s.stands.within in omega (arith, entry_size)

  pub entry_to_none : (size : ℕ) → size ≡ get_or rows (place + 1) 0
      → EntryTo p o truth falses (take (place + 2 + size - (place + 2)) (drop (place + 2) rows)) lanes lanes
  unfolding entry_row
  entry_to_none size e =
      let n : place + 2 + size - (place + 2) ≡ length (clauses_row (clauses_of p o)) = omega (arith, entry_size) in
      let q : place + 2 ≡ place + 1 + 1 = omega arith in
      let clauses : StandsAt (clauses_row (clauses_of p o)) rows (place + 2) = rw q (stands_after (stands_after s.stands)) in
      record {
        clauses = clauses_of p o;
        below = clauses_below p s.valid o;
        is = ap (λ (k : ℕ). take k (drop (place + 2) rows)) n ∙ stands_part (clauses_row (clauses_of p o)) rows (place + 2) clauses;
        holds = λ l. refl;
      }

  module _ (left : List ℕ) (word : ℕ) (w : EntryTo p o truth falses left lanes word) where
    pub entry_to_all : length left ≡ 0 → EntryWord p o truth falses lanes word
    unfolding clauses_hold clauses_row
    entry_to_all e = go w.clauses (sym (ap length w.is) ∙ e) w.holds where
      go : (clauses : List (List ℕ)) → length (clauses_row clauses) ≡ 0
          → ((l : ℕ) → (lane_bit l lanes and clauses_hold (lane (judged p.atoms) l truth) (lane (judged p.atoms) l falses) (clauses_of p o))
          ≡ (lane_bit l word and clauses_hold (lane (judged p.atoms) l truth) (lane (judged p.atoms) l falses) clauses))
          → EntryWord p o truth falses lanes word
      go [] e i = record {
        at = λ l k.
            let trues = lane (judged p.atoms) l truth in
            let set = lane (judged p.atoms) l falses in
            sym (ap (λ (b : Bool). lane_bit l lanes and b) (entry_clauses p trues set o s.within) ∙ i l ∙ and_true (lane_bit l word));
      }
      go (clause ∷ more) e i = absurd (omega arith)

    -- Where no lane is left, none comes in.
    pub entry_to_left : word ≡ 0 → EntryWord p o truth falses lanes 0
    entry_to_left e = record {
      at = λ l k.
          let trues = lane (judged p.atoms) l truth in
          let set = lane (judged p.atoms) l falses in
          lane_none l
          ∙ sym (ap (λ (b : Bool). lane_bit l lanes and b) (entry_clauses p trues set o s.within) ∙ w.holds l ∙ rw (e, lane_none l) (false_and _));
    }

    -- The clause that comes next, and those after it.
    module _ (size : ℕ) (more : List ℕ) (cut : left ≡ size ∷ more) {half : ℕ} (at : half ≡ size / 2) where
      record Next : Type 0 where
        clause : List ℕ
        others : List (List ℕ)
        here : w.clauses ≡ clause ∷ others
        sized : size ≡ 2 * length clause
        rest : more ≡ clause ++ clauses_row others

      next : Next
      unfolding clauses_row
      next = go w.clauses refl (sym cut ∙ w.is) where
        go : (clauses : List (List ℕ)) → w.clauses ≡ clauses → size ∷ more ≡ clauses_row clauses → Next
        go [] e i = cc
        go (clause ∷ others) e i = record { clause = clause; others = others; here = e; sized = cc; rest = cc }

      half_is : half ≡ length next.clause
      half_is = let e = next.sized in omega arith

      pub clause_whole : half ≤ length more
      clause_whole = omega (arith, half_is, ap length next.rest, length-append next.clause (clauses_row next.others))

      module _ {clause others : List ℕ} (front : clause ≡ take half more) (back : others ≡ drop half more) where
        clause_is : clause ≡ next.clause
        clause_is =
            front
            ∙ ap (λ (k : ℕ). take k more) half_is
            ∙ ap (take (length next.clause)) next.rest
            ∙ take-append_seam next.clause (clauses_row next.others)

        others_are : others ≡ clauses_row next.others
        others_are =
            back
            ∙ ap (λ (k : ℕ). drop k more) half_is
            ∙ ap (drop (length next.clause)) next.rest
            ∙ drop-append_seam next.clause (clauses_row next.others)

        pub clause_below : Literals (judged p.atoms) clause
        clause_below = rw clause_is (first_of (rw next.here at w.below)).0

        -- One more clause is in the word.
        pub entry_to_more : (some : ℕ) → SomeWord clause truth falses some → EntryTo p o truth falses others lanes (bit_and word some)
        unfolding clauses_hold
        entry_to_more some m = record {
          clauses = next.others;
          below = (first_of (rw next.here at w.below)).1;
          is = others_are;
          holds = λ l.
              let trues = lane (judged p.atoms) l truth in
              let set = lane (judged p.atoms) l falses in
              (rw next.here at (w.holds l))
              ∙ ap (λ (x : Bool). lane_bit l word and (x and clauses_hold trues set next.others))
              (sym ((rw clause_is at (m.at (judged p.atoms) l)) (first_of (rw next.here at w.below)).0))
              ∙ sym (and_assoc (lane_bit l word) (lane_bit l some) (clauses_hold trues set next.others))
              ∙ ap (λ (x : Bool). x and clauses_hold trues set next.others) (sym (lane_and l word some));
        }
