-- The faults behind are agreed with.
use mathlib.Core.Path.{refl, sym, ap, ◌∙◌}
use native.Mathlib.Omega.{arith}
use Rattle.lanes.specs.Lanes.{lane_bit}
use Rattle.digits.proofs.Powers.{power_fits, power_next}
use Rattle.agreeing.proofs.AgreeingLaws.{agreeing_none, agreeing_free, agreeing_next}
use Rattle.agreeing.proofs.agreeing_lanes.Goals as goal

pub returns-then-holds_none : goal.returns-then-holds_none
returns-then-holds_none c = agreeing_free _ _ _ (sym c.holds_none.ensures ∙ c.if-holds_none.true)

pub loop-i-init : goal.loop-i-init
loop-i-init c = (refl, agreeing_none _ _)

pub keep_agreeing-word-requires : goal.keep_agreeing-word-requires
keep_agreeing-word-requires c = power_fits c.loop-i.invariant.0 (omega arith)

pub overflow_mul-power : goal.overflow_mul-power
overflow_mul-power c = let h = power_fits c.loop-i.invariant.0 (omega arith) in omega arith

pub loop-i-preserved : goal.loop-i-preserved
loop-i-preserved c =
    let loop = c.loop-i in
    let assumed = c.in_lane-assumed.ensures ∙ ap (lane_bit loop.i) c.from.ensures in
    let ruled = c.in_lane-ruled.ensures ∙ ap (lane_bit loop.i) c.from-in-loop-i.ensures in (
      power_next loop.power loop.i loop.invariant.0,
      agreeing_next loop.invariant.1 loop.invariant.0 assumed ruled c.keep_agreeing-word.ensures,
    )
