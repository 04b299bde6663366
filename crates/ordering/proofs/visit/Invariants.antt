-- `ordering::visit` meets its contract. The loop's invariant: the first i visits are written.
use Rattle.ordering.specs.Orders.{Written, start_at}
use Rattle.ordering.proofs.visit.Given as goal

abbrev pub invariant-loop-i : goal.invariant-loop-i
invariant-loop-i l = Written (start_at l.order l.starts) l.i l.initial.visits l.visits
