-- `printout::searching::search_all` meets its contract. The loop's invariant: the calls stand where they reached, and are finished where they do not go on.
use mathlib.Core.Path.{◌≡◌}
use mathlib.Core.Bool.{false}
use lib.ListN.{length}
use Rattle.printout.specs.DeskSearch.{problem_on, is_going, Stands, Finished}
use Rattle.printout.proofs.TurnLaws.{left}
use Rattle.printout.proofs.searching.search_all.Given as goal

abbrev pub invariant-loop-progress : goal.invariant-loop-progress
invariant-loop-progress l =
    Stands (problem_on l.file l.sheet) l.list l.progress
    × ((is_going l.progress.state ≡ false → Finished (problem_on l.file l.sheet) (length l.initial.list) l.progress)
    × ((length l.dual ≡ length l.initial.dual) × (length l.list ≡ length l.initial.list)))

abbrev pub decreases-loop-progress : goal.decreases-loop-progress
decreases-loop-progress l = left (problem_on l.file l.sheet) l.progress (is_going l.progress.state)
