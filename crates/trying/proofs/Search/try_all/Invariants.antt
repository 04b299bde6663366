-- `trying::Search::try_all` meets its contract. The loop's invariant: as many steps as scenarios tried.
use Prim.Native.Nat.{◌-◌, ◌≤◌}
use Rattle.stepping.specs.Stepping.{Tried}
use Rattle.trying.specs.Trying.{problem_held}
use Rattle.trying.proofs.Search.try_all.Given as goal

abbrev pub invariant-loop-reached : goal.invariant-loop-reached
invariant-loop-reached l = record {
  allowed : l.reached.tried ≤ l.allowance;
  so_far : Tried (problem_held l.self) l.self.total l.reached.tried l.initial.reached l.initial.list l.reached l.list;
}

abbrev pub decreases-loop-reached : goal.decreases-loop-reached
decreases-loop-reached l = l.allowance - l.reached.tried
