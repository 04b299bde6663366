-- `ordering::count_up` meets its contract. The loop's invariant: the first i numbers are written.
use Rattle.ordering.specs.Orders.{Written, own}
use Rattle.ordering.proofs.count_up.Given as goal

abbrev pub invariant-loop-i : goal.invariant-loop-i
invariant-loop-i l = Written own l.i l.initial.numbers l.numbers
