-- `folds::fold_places` meets its contract. The loop's invariant: the places of the folds passed are written, and the next is at hand.
use lib.ListN.{get_or}
use mathlib.Core.Path.{◌≡◌}
use Prim.Native.Nat.{ℕ, ◌<◌}
use Rattle.papers.specs.Reading.{program_in}
use Rattle.papers.specs.Places.{fold_place}
use Rattle.folds.proofs.fold_places.Given as goal

abbrev pub invariant-loop-slot : goal.invariant-loop-slot
invariant-loop-slot l =
    (l.place ≡ fold_place (program_in l.file) l.slot-index)
    × ((j : ℕ) → j < l.slot-index → get_or l.slot-items j 0 ≡ fold_place (program_in l.file) j)
