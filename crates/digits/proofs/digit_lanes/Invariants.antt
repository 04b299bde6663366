-- `digits::digit_lanes` meets its contract. The loop's invariant: the lanes passed are set by their digits, and a run begins here.
use Prim.Native.Nat.{◌-◌}
use Rattle.digits.proofs.DigitLaws.{Digits}
use Rattle.digits.proofs.digit_lanes.Given as goal

abbrev pub invariant-loop-lane : goal.invariant-loop-lane
invariant-loop-lane l = Digits l.base l.power l.lane l.digit l.left l.assumed l.ruled

abbrev pub decreases-loop-lane : goal.decreases-loop-lane
decreases-loop-lane l = 64 - l.lane
