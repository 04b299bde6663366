-- `closing::passes::settle_part` meets its contract. The loop's invariant: each pass so far has changed a word.
use Rattle.closing.specs.Passes.{Passes}
use Rattle.closing.proofs.passes.settle_part.Given as goal

abbrev pub invariant-loop : goal.invariant-loop
invariant-loop g l = Passes (g.R.Rows.Puts l.rows) l.visits l.initial.words l.words

abbrev pub decreases-loop : goal.decreases-loop
decreases-loop g l = g.R.Rows.left_over l.words
