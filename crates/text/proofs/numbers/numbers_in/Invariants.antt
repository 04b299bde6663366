-- `text::numbers::numbers_in` meets its contract. The loop's invariant: the numbers of what was read of the line are gathered.
use Prim.Native.Nat.{◌-◌}
use lib.ListN.{length}
use Rattle.text.proofs.GatheredLines.{Gathered}
use Rattle.text.proofs.numbers.numbers_in.Given as goal

abbrev pub invariant-loop-token : goal.invariant-loop-token
invariant-loop-token l = Gathered l.text l.from l.stage l.at l.numbers

abbrev pub decreases-loop-token : goal.decreases-loop-token
decreases-loop-token l = length l.text - l.at
