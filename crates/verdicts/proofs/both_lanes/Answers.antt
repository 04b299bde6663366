-- `verdicts::both_lanes` meets its contract. The loop's invariant: the word has the lanes of the literals passed.
use Rattle.std.proofs.Common.{◌≡◌, ℕ, ◌<◌, arith, take, length, length-take}
use Rattle.std.proofs.lemmas.List.{length_push}
use Rattle.std.proofs.lemmas.Slice.Zip.{zip_turn}
use Rattle.std.specs.Iterator.Adapters.{zip_first, zip_second}
use Rattle.std.specs.Slice.Iter.{iter_rest}
use Rattle.verdicts.proofs.VerdictLaws.{both_none, both_more}
use Rattle.verdicts.proofs.both_lanes.Goals as goal

pub loop-t-init : goal.loop-t-init
loop-t-init c = both_none c.args.trues.now c.args.falses.now

pub loop-t-preserved : goal.loop-t-preserved
loop-t-preserved c =
    let a = c.args in
    let s = c.into_iter-t-iterator.result in
    let first : iter_rest (zip_first s) ≡ take a.count a.trues.now = cc in
    let second : iter_rest (zip_second s) ≡ take a.count a.falses.now = cc in
    let at = zip_turn _ _ c.loop-t.yielded s _ c.next.new.self _ first second c.loop-t.yielded_by _ c.in-Some.is c.next.ensures.steps in
    let within : length c.loop-t.yielded < a.count = omega (arith, at.0, length-take {A = ℕ}) in
    rw length_push (both_more a.count a.trues.now a.falses.now c.loop-t.both (length c.loop-t.yielded) _ _ within (at.2 0) (at.3 0) c.loop-t.invariant)
