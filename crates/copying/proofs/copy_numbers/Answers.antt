-- `copying::copy_numbers` meets its contract. The loop's invariant: the first i numbers are copied.
use native.Mathlib.Omega.{arith}
use Prim.Native.Nat.{◌+◌, ◌<◌}
use lib.ListN.{length}
use Rattle.copying.proofs.CopyLaws.{copied_none, copied_room, copied_more, copied_all}
use Rattle.copying.proofs.copy_numbers.Goals as goal
use Rattle.copying.proofs.copy_numbers.Goals.{In-loop-i}

-- There is room for the number at hand.
room : (c : In-loop-i) → c.args.at + c.loop-i.i < length c.loop-i.values
room c =
    let l = c.loop-i in
    copied_room c.args.bytes.now c.args.values.now c.args.at c.requires l.i l.values l.invariant c.loop-i-test.true

pub loop-i-init : goal.loop-i-init
loop-i-init c = copied_none c.args.bytes.now c.args.values.now c.args.at c.requires

pub overflow_add-values : goal.overflow_add-values
overflow_add-values c = omega (arith, room (goal.at.overflow_add-values c).In-loop-i)

pub offset_bounds-values-at : goal.offset_bounds-values-at
offset_bounds-values-at c = omega (arith, room (goal.at.offset_bounds-values-at c).In-loop-i, c.loop-i.invariant.kept)

pub bounds-values-at : goal.bounds-values-at
bounds-values-at c = room (goal.at.bounds-values-at c).In-loop-i

pub loop-i-preserved : goal.loop-i-preserved
loop-i-preserved c =
    let l = c.loop-i in
    copied_more c.args.bytes.now c.args.values.now c.args.at c.requires l.i l.values l.invariant c.loop-i-test.true c.number_at.ensures.0

pub shape_of-values : goal.shape_of-values
shape_of-values c = c.loop-i.invariant.kept

pub returns : goal.returns
returns c =
    let l = c.loop-i in
    copied_all c.args.bytes.now c.args.values.now c.args.at c.requires l.i l.values l.invariant c.loop-i-test.false
