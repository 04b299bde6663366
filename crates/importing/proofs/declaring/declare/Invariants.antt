-- `importing::declaring::declare` meets its contract. The loop's invariant: the flags are those of the atoms declared so far.
use Prim.Native.Nat.{◌-◌}
use lib.ListN.{length}
use Rattle.importing.proofs.DeclareLaws.{Declaring}
use Rattle.importing.proofs.declaring.declare.Given as goal

abbrev pub invariant-loop-line : goal.invariant-loop-line
invariant-loop-line l = Declaring l.text l.flags l.room l.at

abbrev pub decreases-loop-line : goal.decreases-loop-line
decreases-loop-line l = length l.text - l.at
