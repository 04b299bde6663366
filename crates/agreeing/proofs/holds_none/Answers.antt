-- `agreeing::holds_none` meets its contract.
use borrow.Author.Tests.{eq-eqb, ne_eqb}
use Rattle.papers.specs.Tests.{◌and◌}
use Rattle.agreeing.proofs.holds_none.Goals as goal

pub returns-then-held-eq0 : goal.returns-then-held-eq0
unfolding ◌and◌
returns-then-held-eq0 c = rw (eq-eqb _ 0 c.if-held-eq0.true)

pub returns-else-held-eq0 : goal.returns-else-held-eq0
unfolding ◌and◌
returns-else-held-eq0 c = rw (ne_eqb _ 0 c.if-held-eq0.false)
