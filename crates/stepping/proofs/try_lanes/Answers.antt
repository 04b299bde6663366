-- The lanes below `lane` are tried.
use mathlib.Core.Path.{refl}
use Prim.Native.Nat.{◌<◌, ◌≤◌}
use native.Mathlib.Omega.{arith}
use lib.ListN.{get_or, take}
use lib.Seq.{take-take, get_or-take, length-take-le}
use Rattle.stepping.specs.Containing.{Without}
use Rattle.stepping.specs.Stepping.{LaneReady}
use Rattle.stepping.proofs.BatchSteps.{lane_stands, lane_tries, lane_writes, lanes_none, so_far_more, so_far_ends}
use Rattle.stepping.proofs.try_lanes.Goals as goal
use Rattle.stepping.proofs.try_lanes.Goals.{After-new_lanes-new, After-decide-step, in-Tries, in-Writes}

-- The entries that are compared at once are the list's first.
module _ (c : After-new_lanes-new) where
  few : c.new_lanes-new.result.entries ≤ c.args.before.found
  few = omega (arith, c.new_lanes-new.ensures.few, length-take-le c.args.before.found c.args.list.now c.requires.kept.held)

  without : Without c.args.k c.args.before.position (take c.new_lanes-new.result.entries c.args.list.now) c.args.explained c.new_lanes-new.result.lanes
  without = rw (← take-take c.new_lanes-new.result.entries c.args.before.found c.args.list.now few) c.new_lanes-new.ensures.without

-- A lane, whose step is decided.
module _ (c : After-decide-step) where
  inside : c.loop-lane.lane < c.args.count
  inside = omega (arith, length-take-le c.args.count c.args.rounds.now (omega arith))

  before : Without c.args.k c.args.before.position (take c.new_lanes-new.result.entries c.args.list.now) c.args.explained c.new_lanes-new.result.lanes
  before = without (goal.at.After-decide-step c).After-new_lanes-new

  ready : LaneReady c.args.k c.args.total c.new_lanes-new.result.entries (get_or c.args.rounds.now c.loop-lane.lane 0) c.loop-lane.reached c.loop-lane.list
  ready =
      let within = inside in
      record {
        scenarios = c.requires.scenarios;
        kept = c.loop-lane.invariant.steps.advance.kept;
        compared = c.loop-lane.invariant.compared;
        room = omega arith;
        cost = c.requires.cost c.loop-lane.lane (omega arith);
      }

pub loop-lane-init : goal.loop-lane-init
loop-lane-init c = record {
  all = omega arith;
  compared = few (goal.at.loop-lane-init c).After-new_lanes-new;
  same = refl;
  steps = lanes_none c.requires.kept;
}

pub returns-in-Stands : goal.returns-in-Stands
returns-in-Stands c =
    let place = (goal.at.returns-in-Stands c).After-decide-step in
    let within = inside place in
    let one = lane_stands (ready place) c.decide-step.ensures c.in-Stands.is in
    so_far_ends c.loop-lane.invariant (omega arith) (before place) c.in_lane-unlisted.ensures one within refl

pub loop-lane-preserved : goal.loop-lane-preserved
loop-lane-preserved c =
    let place = (goal.at.loop-lane-preserved c).After-decide-step in
    let within = inside place in
    let rounds = get_or-take c.args.count c.args.rounds.now c.loop-lane.lane 0 within in
    let decided = c.decide-step.ensures in
    let unlisted = c.in_lane-unlisted.ensures in
    elim c.match-step.branch [
      | in-Tries w ↦ rw (w.list-is, w.reached-is, rounds) (
          so_far_more c.loop-lane.invariant (omega arith) (before place) unlisted (lane_tries (ready place) decided w.in-Tries.is) refl)
      | in-Writes w ↦ rw (w.list-is, w.reached-is, rounds) (
          so_far_more c.loop-lane.invariant (omega arith) (before place) unlisted (lane_writes (ready place) decided w.in-Writes.is) refl)
    ]
