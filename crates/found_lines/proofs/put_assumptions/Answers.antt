-- `found_lines::put_assumptions` meets its contract.
use mathlib.Core.Path.{◌∙◌}
use native.Mathlib.Omega.{arith}
use lib.ListN.{length-append}
use Rattle.std.specs.Slice.Iter.{chunks_exact_rest}
use Rattle.papers.specs.Field.{numbers}
use Rattle.decimals.specs.Text.{spaced}
use Rattle.found_lines.specs.FoundLine.{assumptions}
use Rattle.decimals.proofs.Printing.{due_all, due_after, due_none}
use Rattle.found_lines.proofs.Items.{items_none, items_next}
use Rattle.found_lines.proofs.put_assumptions.Goals as goal

pub loop-pair-init : goal.loop-pair-init
loop-pair-init c =
    let a = c.args in
    let all = c.chunks_exact-pair-items.ensures in
    rw c.into_iter-pair-iterator.ensures.into_iter_gives
    (rw all.rest (due_all (spaced (assumptions (numbers a.abducibles.now) a.scenario)) a.page.now), (all.size, rw all.rest (omega arith)))

pub loop-pair-preserved : goal.loop-pair-preserved
loop-pair-preserved c =
    let l = c.loop-pair in
    let step = c.in-Some.ensures.steps in
    let pair = c.in-Some.pair.now in
    let left = chunks_exact_rest c.next.new.self in
    let two = step.1.1 ∙ l.invariant.1.0 in
    let next = items_next pair left c.atom_at.result.0 l.rest two c.atom_at.ensures in
    let sum = length-append pair left in (
      due_after (rw (step.1.0, next) at l.invariant.0) c.put_assumption.ensures.item,
      (step.0 ∙ l.invariant.1.0, let few = rw step.1.0 at l.invariant.1.1 in let x = c.put_assumption.ensures.short in omega arith),
    )

pub returns-clause-items : goal.returns-clause-items
returns-clause-items c =
    let l = c.loop-pair in
    let left = chunks_exact_rest l.pair-iterator in
    let few = c.in-None.ensures.steps.1.0 in
    due_none (rw (items_none left l.rest (rw l.invariant.1.0 at few)) at l.invariant.0)
