-- The lanes behind have their rounds.
use native.Mathlib.Omega.{arith}
use mathlib.Core.Path.{sym, ◌∙◌}
use Rattle.agreeing.proofs.AgreeingLaws.{rounds_none, rounds_kept, rounds_left, rounds_all}
use Rattle.agreeing.proofs.agreeing_rounds.Goals as goal
use Rattle.agreeing.proofs.agreeing_rounds.Goals.{then-in_lane, else-in_lane}

pub loop-l-init : goal.loop-l-init
loop-l-init c = rounds_none _ _

pub loop-l-preserved : goal.loop-l-preserved
loop-l-preserved c =
    elim c.if-in_lane.branch [
      | then-in_lane w ↦ rw w.after-is (rounds_kept c.loop-l.invariant (omega arith) (sym c.in_lane.ensures ∙ w.if-in_lane.true))
      | else-in_lane w ↦ rw w.after-is (rounds_left c.loop-l.invariant (omega arith) (sym c.in_lane.ensures ∙ w.if-in_lane.false))
    ]

pub returns : goal.returns
returns c = rounds_all c.loop-l.invariant (omega arith)
