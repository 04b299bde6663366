-- The faults behind are agreed with.
use mathlib.Core.Path.{◌≡◌}
use Prim.Native.Nat.{◌^◌}
use Rattle.agreeing.specs.AgreeingLanes.{AgreeingLanes}
use Rattle.agreeing.proofs.agreeing_lanes.Given as goal

abbrev pub invariant-loop-i : goal.invariant-loop-i
invariant-loop-i l = (l.power ≡ 3 ^ l.i) × AgreeingLanes l.i l.held l.base l.word
