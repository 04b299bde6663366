-- `ordering::is_order` meets its contract. The loop's invariant: the places passed and the rows passed pass the test.
use Prim.Native.Nat.{ℕ, ◌<◌}
use Rattle.ordering.specs.Orders.{Placed}
use Rattle.ordering.proofs.is_order.Given as goal

abbrev pub invariant-loop-k : goal.invariant-loop-k
invariant-loop-k l = (j : ℕ) → j < l.k → Placed l.count l.order l.ranks j
