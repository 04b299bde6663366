-- `closing::passes::settle` meets its contract. The loop's invariant: the parts so far are settled.
use mathlib.Core.Path.{◌≡◌}
use Prim.Native.Nat.{◌+◌}
use native.Mathlib.Omega.{arith}
use lib.ListN.{length}
use Rattle.parts.proofs.MarkedParts.{part_count, part_visit}
use Rattle.closing.specs.Passes.{none_settled, part_settled}
use Rattle.closing.proofs.passes.settle.Goals as goal

pub loop-start-init : goal.loop-start-init
loop-start-init g c = (omega arith, none_settled)

pub settle_part-requires : goal.settle_part-requires
settle_part-requires g c =
    let visits = c.args.visits.now in
    let start = c.loop-start.start in
    let end = c.part_end-end.result in
    let within = c.part_end-end.ensures.within in
    let count = part_count visits start end within in
    λ i h. rw (part_visit visits start end within i (omega arith)) (c.requires (start + i) (omega arith))

pub loop-start-preserved : goal.loop-start-preserved
loop-start-preserved g c = let e = c.part_end-end.ensures in (e.within, part_settled c.loop-start.invariant.1 e c.settle_part.ensures)

pub returns : goal.returns
returns g c =
    let l = c.loop-start in
    let e : l.start ≡ length c.args.visits.now = omega arith in
    rw e at l.invariant.1
