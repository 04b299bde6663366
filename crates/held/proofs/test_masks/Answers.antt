-- `held::test_masks` meets its contract: a law for each return.
use mathlib.Core.Path.{sym}
use native.Mathlib.Omega.{arith}
use Rattle.held.proofs.MaskWords.{tested_shared, tested_unlisted, tested_passed}
use Rattle.held.proofs.test_masks.Goals as goal

pub returns-then-held-ne0 : goal.returns-then-held-ne0
returns-then-held-ne0 c = sym (tested_shared c.args.k c.args.held (omega arith) c.if-held-ne0.true)

pub returns-then-from-k-ne0 : goal.returns-then-from-k-ne0
returns-then-from-k-ne0 c =
    sym (tested_unlisted c.args.k c.args.held (omega arith) c.if-held-ne0.false c.from.ensures (omega arith) c.if-from-k-ne0.true)

pub returns : goal.returns
returns c = sym (tested_passed c.args.k c.args.held (omega arith) c.if-held-ne0.false c.from.ensures (omega arith) c.if-from-k-ne0.false)
