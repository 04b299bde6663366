-- The digits behind have their words.
use native.Mathlib.Omega.{arith}
use Rattle.digits.proofs.Powers.{power_fits, power_next}
use Rattle.stepping.proofs.ContainingLaws.{tabled_more}
use Rattle.stepping.proofs.contained.digit_table.Goals as goal

pub digit_lanes-words-requires : goal.digit_lanes-words-requires
digit_lanes-words-requires c = power_fits c.loop-i.invariant.0 (omega arith)

pub overflow_mul-power : goal.overflow_mul-power
overflow_mul-power c = let h = power_fits c.loop-i.invariant.0 (omega arith) in omega arith

pub loop-i-preserved : goal.loop-i-preserved
loop-i-preserved c =
    let loop = c.loop-i in
    let words = c.digit_lanes-words in (
      power_next loop.power loop.i loop.invariant.0,
      tabled_more loop.i c.args.base loop.table (omega arith) loop.invariant.1 loop.invariant.0 words.result.assumed words.result.ruled
          words.ensures.0 words.ensures.1,
    )
