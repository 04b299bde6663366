-- The faults behind are looked at.
use mathlib.Core.Path.{◌≡◌, refl, sym, ap, ◌∙◌}
use mathlib.Core.Bool.{cond}
use Prim.Native.Nat.{◌-◌, ◌%◌}
use native.Mathlib.Nat.{mod-lt}
use native.Mathlib.Omega.{arith}
use Rattle.lanes.specs.Lanes.{lane_bit}
use Rattle.digits.proofs.Powers.{power_fits, power_next}
use Rattle.agreeing.proofs.AgreeingLaws.{free_agrees}
use Rattle.agreeing.proofs.RunLaws.{passing_begun, passing_next}
use Rattle.agreeing.proofs.runs.disagreeing_run.Goals as goal
use Rattle.agreeing.proofs.runs.disagreeing_run.Goals.{then-disagrees, else-disagrees}

pub returns-then-holds_none : goal.returns-then-holds_none
returns-then-holds_none c = record {
  none = λ l h. absurd (omega arith);
  first = λ e. free_agrees _ _ _ (sym c.holds_none.ensures ∙ c.if-holds_none.true);
}

pub loop-i-init : goal.loop-i-init
loop-i-init c = (refl, passing_begun _ _ _)

pub nonzero_div-digit : goal.nonzero_div-digit
nonzero_div-digit c = (power_fits c.loop-i.invariant.0 (omega arith)).0

pub nonzero_rem-run : goal.nonzero_rem-run
nonzero_rem-run c = (power_fits c.loop-i.invariant.0 (omega arith)).0

pub overflow_sub-run : goal.overflow_sub-run
overflow_sub-run c =
    let small = mod-lt c.args.scenario (power_fits c.loop-i.invariant.0 (omega arith)).0 in
    omega arith

pub overflow_mul-power : goal.overflow_mul-power
overflow_mul-power c = let h = power_fits c.loop-i.invariant.0 (omega arith) in omega arith

pub loop-i-preserved : goal.loop-i-preserved
loop-i-preserved c =
    let loop = c.loop-i in
    let power = loop.invariant.0 in
    let assumed = c.in_lane-assumed.ensures ∙ ap (lane_bit loop.i) c.from.ensures in
    let ruled = c.in_lane-ruled.ensures ∙ ap (lane_bit loop.i) c.from-in-loop-i.ensures in
    let run : c.if-disagrees.run ≡ cond c.disagrees.result (loop.power - c.args.scenario % loop.power) loop.run = elim c.if-disagrees.branch [
      | then-disagrees w ↦ rw w.if-disagrees.true w.run-is
      | else-disagrees w ↦ rw w.if-disagrees.false w.run-is
    ]
    in (
      power_next loop.power loop.i power,
      passing_next loop.invariant.1 (omega arith) power (power_fits power (omega arith)).0 assumed ruled c.disagrees.ensures run,
    )
