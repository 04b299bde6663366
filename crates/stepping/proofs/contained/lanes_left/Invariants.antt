-- The entries from this one on are compared with the lanes left.
use lib.ListN.{drop}
use Rattle.stepping.proofs.ContainingLaws.{LeftTo}
use Rattle.stepping.proofs.contained.lanes_left.Given as goal

abbrev pub invariant-loop-entry : goal.invariant-loop-entry
invariant-loop-entry l = LeftTo l.k l.table l.entries l.lanes (drop l.entry-index l.entries) l.left
