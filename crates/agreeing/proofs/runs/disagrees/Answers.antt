-- `agreeing::runs::disagrees` meets its contract.
use mathlib.Core.Path.{sym, ◌∙◌}
use mathlib.Core.Bool.{true≢false}
use borrow.Author.Tests.{ne_eqb}
use Rattle.papers.specs.Tests.{◌and◌, ◌or◌}
use Rattle.held.specs.Masks.{keeps}
use Rattle.agreeing.proofs.RunLaws.{kept_digit}
use Rattle.agreeing.proofs.runs.disagrees.Goals as goal
use Rattle.agreeing.proofs.runs.disagrees.Goals.{then-assumed, else-assumed}

pub returns-then-own-ne1 : goal.returns-then-own-ne1
unfolding keeps ◌and◌ ◌or◌
returns-then-own-ne1 c = elim c.if-assumed.branch [
  | then-assumed w ↦ let e = ne_eqb c.args.own 1 c.if-own-ne1.true.1 in rw (w.if-assumed.true, e) (cc)
  | else-assumed w ↦ absurd (true≢false (sym c.if-own-ne1.true.0 ∙ w.if-assumed.false))
]

pub returns-then-ruled : goal.returns-then-ruled
unfolding keeps ◌and◌ ◌or◌
returns-then-ruled c = rw (kept_digit c.args.assumed 1 c.args.own c.if-own-ne1.either, c.if-ruled.true)

pub returns-else-ruled : goal.returns-else-ruled
unfolding keeps ◌and◌ ◌or◌
returns-else-ruled c = rw (kept_digit c.args.assumed 1 c.args.own c.if-own-ne1.either, c.if-ruled.false)
