-- `dual_writer::chains::Chains::count_of` meets its contract. The loop's invariant: so many folds lie behind.
use Rattle.dual_writer.proofs.ChainLaws.{following_next}
use Rattle.dual_writer.proofs.chains.Chains.count_of.Goals as goal

pub loop-ahead-preserved : goal.loop-ahead-preserved
loop-ahead-preserved c =
    let l = c.loop-ahead in
    rw c.next_of-ahead.ensures (following_next _ _ l.ahead l.count l.invariant c.in-Some.fold c.in-Some.is)
