-- The rules that are put to use part by part close the true set.
-- Assumes nothing.
use mathlib.Core.Bool.{Bool, true}
use mathlib.Core.List.{List}
use Prim.Native.Nat.{ℕ}
use native.Mathlib.Omega.{arith}
use lib.ListN.{length, take}
use lib.Seq.{take_all}
use Rattle.parts.specs.Parts.{Parted, Apart}
use Rattle.parts.proofs.MarkedParts.{apart_none, apart_end}
use Rattle.lanes.specs.Words.{Laned}
use Rattle.closing.specs.Closing.{rule_in, rules_in, RulesStand, Judged, Raised, Passed, begun, then, ClosedTrue}
use Rattle.closing.specs.Passes.{Ran, none_ran, one_ran, Passes, no_pass, one_pass, PartRan, single, several, Settled, none_settled, part_settled}
use Rattle.closing.proofs.ClosingLaws.{rule_visited, length_rules, rows_judged, Going, going_starts, going_on, going_closed}
use Rattle.closing.proofs.TrueParts.{none_closed, single_closed, part_stands, part_closed}

module _ (rows negated : List ℕ) where
  abbrev Puts : ℕ → List ℕ → List ℕ → Bool → Type 0
  Puts place before after changed = Raised (rule_in rows place) negated before after changed

  ran_passed : {visits before after : List ℕ} {count : ℕ} {changed : Bool} → Ran Puts visits before count after changed
      → Passed (rules_in rows visits) negated before count after changed
  ran_passed none_ran = begun
  ran_passed {visits} (one_ran {count} r h d) = then (ran_passed r) (rw (rule_visited rows visits count h) d)

  ran_all : {visits before after : List ℕ} {changed : Bool} → Ran Puts visits before (length visits) after changed
      → Passed (rules_in rows visits) negated before (length (rules_in rows visits)) after changed
  ran_all {visits} r = rw (length_rules rows visits) (ran_passed r)

  passes_going : {visits before words : List ℕ} (n : ℕ) → Judged n (rules_in rows visits) → Laned before → Passes Puts visits before words
      → Going n (rules_in rows visits) negated before words true
  passes_going n j b no_pass = going_starts n _ _ _ j b
  passes_going n j b (one_pass p r) = going_on n _ _ _ j b (passes_going n j b p) (ran_all r)

  part_closes : {visits before after : List ℕ} → RulesStand rows visits → Laned before → PartRan Puts visits before after
      → ClosedTrue (rules_in rows visits) negated before after
  part_closes s b (single e d) = single_closed _ _ e s b d
  part_closes s b (several p r) = going_closed b (rows_judged _ _ s) (λ n j. going_on n _ _ _ j b (passes_going n j b p) (ran_all r))

  module _ (visits : List ℕ) (s : RulesStand rows visits) (t : Parted 0 (length visits) rows visits) where
    parts_close : {before after : List ℕ} {at : ℕ} → Laned before → Settled Puts visits before at after
        → ClosedTrue (rules_in rows (take at visits)) negated before after × Apart 0 (length visits) rows visits at
    parts_close b none_settled = (none_closed rows visits b, apart_none 0 (length visits) rows visits)
    parts_close b (part_settled {start} {end} p e q) =
        let i = parts_close b p in (
          part_closed rows visits start end e i.1 i.0 (part_closes (part_stands rows visits start end e s) i.0.laned q),
          apart_end 0 rows visits start end t e,
        )

    pub settled_closes : {before after : List ℕ} → Laned before → Settled Puts visits before (length visits) after
        → ClosedTrue (rules_in rows visits) negated before after
    settled_closes b p = let e = take_all (length visits) visits (omega arith) in rw e at (parts_close b p).0
