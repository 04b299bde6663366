-- The entries that are put to use part by part leave what is backed.
-- Assumes nothing.
use mathlib.Core.Path.{◌≡◌, refl}
use mathlib.Core.Bool.{Bool}
use mathlib.Core.List.{List}
use Prim.Native.Nat.{ℕ}
use native.Mathlib.Omega.{arith}
use lib.ListN.{length, get_or}
use Rattle.papers.specs.Program.{Program}
use Rattle.parts.specs.Parts.{head_at, Parted, Apart}
use Rattle.parts.proofs.MarkedParts.{apart_none, apart_end}
use Rattle.closing.specs.FalseWords.{EntriesVisited, Dropped, Narrowed, DroppedTo, PartDropped}
use Rattle.closing.specs.Passes.{Ran, none_ran, one_ran, Passes, no_pass, one_pass, PartRan, single, several, Settled, none_settled, part_settled}
use Rattle.closing.proofs.DroppedLaws.{narrowed_none, dropped_one, dropped_none, dropped_then, narrowed_pass, part_dropped}
use Rattle.closing.proofs.EntriesVisited.{visit_judged, visit_dropped, part_entries}
use Rattle.closing.proofs.FalseParts.{parts_none, parts_more}

module _ (p : Program) (rows truth backing : List ℕ) where
  abbrev Puts : ℕ → List ℕ → List ℕ → Bool → Type 0
  Puts place before after changed = Dropped p (get_or rows place 0) truth backing before after changed

  module _ {visits : List ℕ} (s : EntriesVisited p rows visits) where
    ran_drops : {before after : List ℕ} {count : ℕ} {changed : Bool} → length before ≡ 513 → Ran Puts visits before count after changed
        → DroppedTo (head_at rows visits) count p truth backing before after changed
    ran_drops b none_ran = dropped_none p truth backing _ (head_at rows visits) b
    ran_drops b (one_ran {count} {words} {after} {changed} {more} r h d) =
        dropped_then p truth backing _ (head_at rows visits) count words changed (ran_drops b r) s.valid (visit_judged s count h) after more
        (visit_dropped rows visits count refl d)

    passes_narrow : {before words : List ℕ} → length before ≡ 513 → Passes Puts visits before words
        → Narrowed (head_at rows visits) (length visits) p truth backing before words
    passes_narrow b no_pass = narrowed_none b
    passes_narrow b (one_pass q r) = let w = passes_narrow b q in narrowed_pass w (ran_drops w.long r)

    part_drops : {before after : List ℕ} → length before ≡ 513 → PartRan Puts visits before after
        → PartDropped (head_at rows visits) (length visits) p truth backing before after
    part_drops b (single e d) = rw e (dropped_one s.valid (visit_judged s 0 (omega arith)) b (visit_dropped rows visits 0 refl d) refl)
    part_drops b (several q r) = let w = passes_narrow b q in part_dropped w (ran_drops w.long r) refl

  module _ (visits : List ℕ) (s : EntriesVisited p rows visits) (t : Parted 1 (length visits) rows visits) where
    parts_drop : {before after : List ℕ} {at : ℕ} → length before ≡ 513 → Settled Puts visits before at after
        → PartDropped (head_at rows visits) at p truth backing before after × Apart 1 (length visits) rows visits at
    parts_drop b none_settled = (parts_none b, apart_none 1 (length visits) rows visits)
    parts_drop b (part_settled {start} {end} q e r) =
        let i = parts_drop b q in (
          parts_more s e i.1 i.0 (part_drops (part_entries start end e.within s) i.0.narrowed.long r),
          apart_end 1 rows visits start end t e,
        )

    pub settled_drops : {before after : List ℕ} → length before ≡ 513 → Settled Puts visits before (length visits) after
        → PartDropped (head_at rows visits) (length visits) p truth backing before after
    settled_drops b q = (parts_drop b q).0
