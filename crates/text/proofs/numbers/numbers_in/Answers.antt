-- `text::numbers::numbers_in` meets its contract. The loop's invariant: the numbers of what was read of the line are gathered.
use mathlib.Core.Path.{refl}
use native.Mathlib.Omega.{arith}
use Rattle.text.specs.LineNumbers.{padded}
use Rattle.text.proofs.LineLaws.{next_is, next_over}
use Rattle.text.proofs.GatheredLines.{gathered_start, gathered_stray, gathered_over, gathered_less, gathered_same, gathered_on, gathered_done}
use Rattle.text.proofs.numbers.numbers_in.Goals as goal

pub loop-token-init : goal.loop-token-init
loop-token-init c = gathered_start c.requires (unfold padded in refl)

pub returns-in_default-step : goal.returns-in_default-step
returns-in_default-step c =
    let token = next_is _ _ c.in-Ok-Some.ensures c.in-Ok-Some.field-0-is in
    gathered_done c.loop-token.invariant token c.step.ensures c.in_default-step.not-Goes

pub loop-token-preserved-in-Some : goal.loop-token-preserved-in-Some
loop-token-preserved-in-Some c =
    let token = next_is _ _ c.in-Ok-Some.ensures c.in-Ok-Some.field-0-is in
    let said = c.in-Some.ensures in
    gathered_on c.loop-token.invariant token c.step.ensures c.in-Goes.is (rw (← said.0, ← said.1) c.put.ensures)

pub loop-token-smaller-in-Some : goal.loop-token-smaller-in-Some
loop-token-smaller-in-Some c =
    let token = next_is _ _ c.in-Ok-Some.ensures c.in-Ok-Some.field-0-is in
    let less = gathered_less c.loop-token.invariant token c.step.ensures in
    omega (arith, less, (loop-token-preserved-in-Some c).within)

pub loop-token-preserved : goal.loop-token-preserved
loop-token-preserved c =
    let token = next_is _ _ c.in-Ok-Some.ensures c.in-Ok-Some.field-0-is in
    let g = c.loop-token.invariant in
    gathered_on g token c.step.ensures c.in-Goes.is (gathered_same g token c.step.ensures c.in_default-number_said.ensures)

pub loop-token-smaller : goal.loop-token-smaller
loop-token-smaller c =
    let token = next_is _ _ c.in-Ok-Some.ensures c.in-Ok-Some.field-0-is in
    let less = gathered_less c.loop-token.invariant token c.step.ensures in
    omega (arith, less, (loop-token-preserved c).within)

pub returns-in_default : goal.returns-in_default
returns-in_default c = gathered_over c.loop-token.invariant (next_over _ _ c.in_default.ensures (cc))

pub returns-in_default-2 : goal.returns-in_default-2
returns-in_default-2 c = gathered_stray c.loop-token.invariant (rw c.in_default.is at c.next_token.ensures).1
