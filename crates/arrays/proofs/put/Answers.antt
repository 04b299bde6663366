-- `arrays::put` meets its contract.
use mathlib.Core.Path.{sym}
use lib.Seq.{set_out}
use Rattle.arrays.proofs.put.Goals as goal

pub returns-else-at-numbers : goal.returns-else-at-numbers
returns-else-at-numbers c = let a = c.args in sym (set_out a.numbers.now a.at a.number c.if-at-numbers.false)
