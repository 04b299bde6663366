-- `closing::passes::settle` meets its contract. The loop's invariant: the parts so far are settled.
use Prim.Native.Nat.{◌-◌, ◌≤◌}
use lib.ListN.{length}
use Rattle.closing.specs.Passes.{Settled}
use Rattle.closing.proofs.passes.settle.Given as goal

abbrev pub invariant-loop-start : goal.invariant-loop-start
invariant-loop-start g l = (l.start ≤ length l.visits) × Settled (g.R.Rows.Puts l.rows) l.visits l.initial.words l.start l.words

abbrev pub decreases-loop-start : goal.decreases-loop-start
decreases-loop-start g l = length l.visits - l.start
