-- `verdicts::both_lanes` meets its contract. The loop's invariant: the word has the lanes of the literals passed.
use lib.ListN.{length}
use Rattle.verdicts.specs.VerdictLanes.{BothLanes}
use Rattle.verdicts.proofs.both_lanes.Given as goal

abbrev pub invariant-loop-t : goal.invariant-loop-t
invariant-loop-t l = BothLanes (length l.yielded) l.trues l.falses l.both
