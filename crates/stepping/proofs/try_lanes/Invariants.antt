-- The lanes below `lane` are tried.
use Rattle.stepping.proofs.BatchSteps.{SoFar}
use Rattle.stepping.proofs.try_lanes.Given as goal

abbrev pub invariant-loop-lane : goal.invariant-loop-lane
invariant-loop-lane l =
    SoFar l.k l.total l.explained l.fn.rounds l.new.entries l.lane l.initial.reached l.initial.list l.reached l.list
