-- `closing::truth::close_true` meets its contract.
use Rattle.closing.proofs.TrueSettled.{settled_closes}
use Rattle.closing.proofs.truth.close_true.Goals as goal

pub returns : goal.returns
returns c = settled_closes _ _ _ c.requires.0 c.requires.1 (record { many = c.told-truth; fits = c.fits-truth }) c.settle.ensures
