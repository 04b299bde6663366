-- `digits::digit_lanes` meets its contract. The loop's invariant: the lanes passed are set by their digits, and a run begins here.
use native.Mathlib.Nat.{mod-lt}
use native.Mathlib.Omega.{arith}
use borrow.Author.Tests.{eq-eqb, ne_eqb}
use Rattle.digits.proofs.DigitLaws.{digits_none, digits_small, digits_more, digits_all}
use Rattle.digits.proofs.digit_lanes.Goals as goal
use Rattle.digits.proofs.digit_lanes.Goals.{then-digit-eq1, else-digit-eq1, then-digit-eq2, else-digit-eq2, then-digit-lt2, else-digit-lt2}

pub overflow_sub-left : goal.overflow_sub-left
overflow_sub-left c = omega (arith, mod-lt c.args.base c.requires.0)

pub loop-lane-init : goal.loop-lane-init
loop-lane-init c = digits_none c.args.base c.args.power c.requires.0

pub loop-lane-preserved : goal.loop-lane-preserved
loop-lane-preserved c =
    let l = c.loop-lane in
    let small = digits_small l.invariant in
    digits_more l.invariant c.run_lanes-run.ensures
    (elim c.if-digit-eq1.branch [
      | then-digit-eq1 w ↦ rw (w.assumed-is, eq-eqb l.digit 1 w.if-digit-eq1.true)
      | else-digit-eq1 w ↦ rw (w.assumed-is, ne_eqb l.digit 1 w.if-digit-eq1.false)
    ])
    (elim c.if-digit-eq2.branch [
      | then-digit-eq2 w ↦ rw (w.ruled-is, eq-eqb l.digit 2 w.if-digit-eq2.true)
      | else-digit-eq2 w ↦ rw (w.ruled-is, ne_eqb l.digit 2 w.if-digit-eq2.false)
    ])
    (elim c.if-digit-lt2.branch [ then-digit-lt2 w ↦ omega arith | else-digit-lt2 w ↦ omega arith ])

pub returns : goal.returns
returns c = digits_all c.loop-lane.invariant c.loop-lane-test.false
