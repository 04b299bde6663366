-- `parts::mark_parts` meets its contract. The loop's invariant: the first visits are marked, and their rows are within `reach`.
use mathlib.Core.Path.{◌≡◌}
use native.Mathlib.Omega.{arith}
use Rattle.parts.specs.Parts.{place_of}
use Rattle.parts.proofs.ReachLaws.{marked_more, marked_parted}
use Rattle.parts.proofs.mark_parts.Goals as goal

pub reach_of-reach-requires : goal.reach_of-reach-requires
unfolding place_of
reach_of-reach-requires c = (c.requires.0, (let e = c.place_of.ensures in omega arith))

pub loop-i-preserved : goal.loop-i-preserved
loop-i-preserved c =
    marked_more c.mark.result c.requires.1.1 c.requires.1.0 c.loop-i-test.true c.reach_of-reach.ensures.0 c.place_of.ensures
    c.reach_of-reach.ensures.1 c.mark.ensures.0 c.mark.ensures.1 c.loop-i.invariant

pub returns : goal.returns
returns c =
    let e : c.loop-i.i ≡ c.args.count = omega arith in
    let m = rw e at c.loop-i.invariant in
    (marked_parted c.args.numbers.now c.requires.1.1 c.find_lasts.ensures m, m.marked)
