-- `text::line::read_line` meets its contract. The loop's invariant: the lines from the start are those from here, where the line was read so far.
use native.Mathlib.Omega.{arith}
use Rattle.std.proofs.lemmas.Result.{err_from_is_err_and}
use Rattle.text.proofs.LineLaws.{next_is, next_over, gone_start, gone_stray, gone_over, gone_less, gone_on, gone_ends, gone_bars}
use Rattle.text.proofs.line.read_line.Goals as goal

pub loop-token-init : goal.loop-token-init
loop-token-init c = gone_start c.requires

pub loop-token-preserved : goal.loop-token-preserved
loop-token-preserved c = gone_on c.loop-token.invariant (next_is _ _ c.in_ok-token.ensures c.in-Some.is) c.step.ensures c.in-Goes.is

pub loop-token-smaller : goal.loop-token-smaller
loop-token-smaller c =
    let less = gone_less c.loop-token.invariant (next_is _ _ c.in_ok-token.ensures c.in-Some.is) c.step.ensures in
    omega (arith, less, (loop-token-preserved c).within)

pub returns-in_err-token : goal.returns-in_err-token
returns-in_err-token c =
    let p = err_from_is_err_and c.from_residual.result c.from_residual.ensures.1 in
    rw (p.1, p.2) (gone_stray c.loop-token.invariant c.in_err-token.ensures)

pub returns-in-Ends : goal.returns-in-Ends
returns-in-Ends c = gone_ends c.loop-token.invariant (next_is _ _ c.in_ok-token.ensures c.in-Some.is) c.step.ensures c.in-Ends.is

pub returns-in-Bars : goal.returns-in-Bars
returns-in-Bars c = gone_bars c.loop-token.invariant (next_is _ _ c.in_ok-token.ensures c.in-Some.is) c.step.ensures c.in-Bars.is

pub returns : goal.returns
returns c = rw c.ended.ensures (gone_over c.loop-token.invariant (next_over _ _ c.in_ok-token.ensures c.in_default.is))
