-- `stepping::contained::new_lanes` meets its contract.
use Rattle.stepping.proofs.ContainingLaws.{new_uncompared}
use Rattle.stepping.proofs.contained.new_lanes.Goals as goal

pub returns-then-explained-eq0 : goal.returns-then-explained-eq0
returns-then-explained-eq0 c = let a = c.args in new_uncompared a.k a.base a.found.now _ a.explained
