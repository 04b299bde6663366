-- The digits that are left decide.
use mathlib.Core.Path.{◌≡◌, sym, ◌∙◌}
use mathlib.Core.Logic.{◌⊎◌, inl, inr}
use Prim.Native.Nat.{◌+◌, ◌-◌, ◌%◌}
use native.Mathlib.Omega.{arith}
use Rattle.stepping.proofs.PartLoops.{part_next, part_not, part_done}
use Rattle.stepping.proofs.digitwise.part_of.Goals as goal
use Rattle.stepping.proofs.digitwise.part_of.Goals.{else-digit-ne0-via-then-digit-ne0+else-digit-y, else-digit-ne0-via-else-digit-ne0}

pub returns-then-digit-y : goal.returns-then-digit-y
returns-then-digit-y c = sym (c.loop.invariant ∙ part_not _ _ _ (omega arith) c.if-digit-ne0.true c.if-digit-y.true)

pub loop-preserved : goal.loop-preserved
loop-preserved c =
    let fits : (c.loop.x % 3 ≡ 0) ⊎ (c.loop.x % 3 ≡ c.loop.y % 3) = elim c.else-digit-ne0.branch [
      | else-digit-ne0-via-then-digit-ne0+else-digit-y w ↦ inr w.if-digit-y.false
      | else-digit-ne0-via-else-digit-ne0 w ↦ inl w.if-digit-ne0.false
    ]
    in
    let e : c.args.k - c.loop.counter - 1 ≡ c.args.k - (c.loop.counter + 1) = omega arith in
    rw (← e) (c.loop.invariant ∙ part_next _ _ _ (omega arith) fits)

pub returns : goal.returns
returns c = sym (c.loop.invariant ∙ part_done _ _ _ (omega arith))
