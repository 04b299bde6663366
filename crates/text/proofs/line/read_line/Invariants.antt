-- `text::line::read_line` meets its contract. The loop's invariant: the lines from the start are those from here, where the line was read so far.
use Prim.Native.Nat.{◌-◌}
use lib.ListN.{length}
use Rattle.text.proofs.LineLaws.{Gone}
use Rattle.text.proofs.line.read_line.Given as goal

abbrev pub invariant-loop-token : goal.invariant-loop-token
invariant-loop-token l = Gone l.text l.from l.stage l.at

abbrev pub decreases-loop-token : goal.decreases-loop-token
decreases-loop-token l = length l.text - l.at
