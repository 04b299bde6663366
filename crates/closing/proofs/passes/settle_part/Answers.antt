-- `closing::passes::settle_part` meets its contract. The loop's invariant: each pass so far has changed a word.
use mathlib.Core.Path.{sym, subst}
use native.Mathlib.Omega.{arith}
use Rattle.closing.specs.Passes.{no_pass, one_pass, single, several}
use Rattle.closing.proofs.passes.settle_part.Goals as goal

pub put-requires : goal.put-requires
put-requires g c = subst (λ place. g.R.Rows.Stands c.args.rows.now place) (sym c.place_of.ensures) (c.requires 0 (omega arith))

pub returns-in-len1 : goal.returns-in-len1
returns-in-len1 g c = single (omega arith) (rw c.place_of.ensures at c.put.ensures.does)

pub loop-init : goal.loop-init
loop-init g c = no_pass

pub loop-smaller : goal.loop-smaller
loop-smaller g c = c.pass.ensures.goes_on.less c.loop-test.true

pub loop-preserved : goal.loop-preserved
loop-preserved g c = one_pass c.loop.invariant (rw c.loop-test.true at c.pass.ensures.does)

pub returns : goal.returns
returns g c = several c.loop.invariant (rw c.loop-test.false at c.pass.ensures.does)
