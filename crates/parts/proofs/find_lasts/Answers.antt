-- `parts::find_lasts` meets its contract. The loop's invariant: the last visits are found among those done.
use mathlib.Core.Path.{ap, ◌∙◌}
use Prim.Native.Nat.{ℕ, ◌<◌}
use native.Mathlib.Omega.{arith}
use lib.ListN.{get_or}
use lib.Seq.{get_or-take, length-take-le}
use Rattle.parts.specs.Parts.{head_at}
use Rattle.parts.proofs.ReachLaws.{lasts_more}
use Rattle.parts.proofs.find_lasts.Goals as goal

pub loop-i-preserved : goal.loop-i-preserved
unfolding head_at
loop-i-preserved c =
    let a = c.args in
    let i = c.loop-i.i in
    let more : i < a.count = let all = length-take-le a.count a.visits.now c.requires.1 in omega arith in
    let place = rw (get_or-take a.count a.visits.now i 0 more) at c.place_of.ensures in
    rw c.put.ensures (lasts_more more (c.get-head.ensures.0 ∙ ap (λ (n : ℕ). get_or a.numbers.now n 0) place) c.loop-i.invariant)
