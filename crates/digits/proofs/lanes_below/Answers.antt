-- `digits::lanes_below` meets its contract.
use Rattle.digits.proofs.DigitLaws.{shifted_some, below_some, below_all}
use Rattle.digits.proofs.lanes_below.Goals as goal

pub overflow_sub-result : goal.overflow_sub-result
overflow_sub-result c = shifted_some c.args.lane c.if-lane-lt64.true

pub returns-then-lane-lt64 : goal.returns-then-lane-lt64
returns-then-lane-lt64 c = below_some c.args.lane c.if-lane-lt64.true

pub returns-else-lane-lt64 : goal.returns-else-lane-lt64
returns-else-lane-lt64 c = below_all c.args.lane c.if-lane-lt64.false
