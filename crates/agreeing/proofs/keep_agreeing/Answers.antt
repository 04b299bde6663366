-- `agreeing::keep_agreeing` meets its contract.
use mathlib.Core.Path.{◌≡◌}
use mathlib.Core.Bool.{cond}
use lib.Bits.{bit_and}
use Rattle.agreeing.proofs.AgreeingLaws.{kept_both, kept_free}
use Rattle.agreeing.proofs.keep_agreeing.Goals as goal
use Rattle.agreeing.proofs.keep_agreeing.Goals.{Joined-assumed, then-assumed, else-assumed}

pub returns-then-not-ruled : goal.returns-then-not-ruled
returns-then-not-ruled c = kept_free c.if-not-assumed.true c.if-not-ruled.true

-- Kept by the first mask.
by_assumed : (c : Joined-assumed) → c.if-assumed.kept ≡ cond c.args.assumed (bit_and c.args.word c.digit_lanes-digits.result.assumed) c.args.word
by_assumed c = elim c.if-assumed.branch [
  | then-assumed w ↦ rw w.if-assumed.true w.kept-is
  | else-assumed w ↦ rw w.if-assumed.false w.kept-is
]

pub returns-then-ruled : goal.returns-then-ruled
returns-then-ruled c =
    let digits = c.digit_lanes-digits.ensures in
    kept_both digits.0 digits.1 (by_assumed (goal.at.returns-then-ruled c).Joined-assumed) (rw c.if-ruled.true)

pub returns-else-ruled : goal.returns-else-ruled
returns-else-ruled c =
    let digits = c.digit_lanes-digits.ensures in
    kept_both digits.0 digits.1 (by_assumed (goal.at.returns-else-ruled c).Joined-assumed) (rw c.if-ruled.false)
