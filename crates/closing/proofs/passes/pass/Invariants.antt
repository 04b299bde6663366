-- `closing::passes::pass` meets its contract. The loop's invariant: the rows visited have been put to use, one after the other.
use Rattle.closing.specs.Passes.{Ran, Passing}
use Rattle.closing.proofs.passes.pass.Given as goal

abbrev pub invariant-loop-visit : goal.invariant-loop-visit
invariant-loop-visit g l =
    Ran (g.R.Rows.Puts l.rows) l.visits l.initial.words l.visit-index l.words l.changed × Passing g.R.Rows.left_over l.initial.words l.words l.changed
