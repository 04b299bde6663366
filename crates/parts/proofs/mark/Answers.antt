-- `parts::mark` meets its contract.
use borrow.Author.Tests.{le-leb, lt-leb}
use mathlib.Core.Path.{sym, ◌∙◌}
use Prim.Native.Nat.{◌+◌}
use native.Mathlib.Omega.{arith}
use Rattle.parts.specs.Parts.{place_of, ends_part}
use Rattle.parts.proofs.mark.Goals as goal

pub returns-then-ends : goal.returns-then-ends
unfolding place_of ends_part
returns-then-ends c = (omega arith, le-leb 32768 (c.args.visit + 32768) (omega arith) ∙ sym c.if-ends.true)

pub returns-else-ends : goal.returns-else-ends
unfolding place_of ends_part
returns-else-ends c = (omega arith, lt-leb 32768 c.args.visit (omega arith) ∙ sym c.if-ends.false)
