-- `dual_writer::chains::Chains::count_of` meets its contract. The loop's invariant: so many folds lie behind.
use Prim.Native.Nat.{◌-◌}
use Rattle.dual_writer.specs.Chains.{number_from, folds_at}
use Rattle.dual_writer.proofs.ChainLaws.{Following}
use Rattle.dual_writer.proofs.chains.Chains.count_of.Given as goal

abbrev pub invariant-loop-ahead : goal.invariant-loop-ahead
invariant-loop-ahead l = Following l.fn.self.next (folds_at l.fn.self.next l.initial.ahead) l.ahead l.count

abbrev pub decreases-loop-ahead : goal.decreases-loop-ahead
decreases-loop-ahead l = 1280 - number_from l.ahead
