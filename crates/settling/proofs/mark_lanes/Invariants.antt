-- `settling::mark_lanes` meets its contract. The loop's invariant: the lanes passed are marked, the others as they were.
use mathlib.Core.Path.{◌≡◌}
use mathlib.Core.Bool.{cond}
use Prim.Native.Nat.{ℕ, ◌≤◌, ◌<◌}
use lib.ListN.{get_or}
use Rattle.lanes.specs.Lanes.{lane_bit}
use Rattle.settling.proofs.mark_lanes.Given as goal

abbrev pub invariant-loop-lane : goal.invariant-loop-lane
invariant-loop-lane v = record {
  marked : (l : ℕ) → l < v.lane → get_or v.marks l 0 ≡ cond (lane_bit l v.word) v.number (get_or v.initial.marks l 0);
  stays : (l : ℕ) → v.lane ≤ l → get_or v.marks l 0 ≡ get_or v.initial.marks l 0;
}
