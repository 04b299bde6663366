-- `printout::write_found_lines` meets its contract.
use native.Mathlib.Omega.{arith}
use Rattle.papers.specs.Field.{numbers}
use Rattle.decimals.proofs.Printing.{due_all, due_after, due_none}
use Rattle.printout.specs.Output.{found_lines}
use Rattle.printout.proofs.TextLaws.{lines_none, lines_next}
use Rattle.printout.proofs.write_found_lines.Goals as goal

pub loop-entry-init : goal.loop-entry-init
loop-entry-init c = let a = c.args in (due_all (found_lines (numbers a.abducibles.now) a.entries.now) a.page.now, omega arith)

pub loop-entry-preserved : goal.loop-entry-preserved
loop-entry-preserved c =
    let a = c.args in
    let l = c.loop-entry in
    let next = lines_next (numbers a.abducibles.now) l.entry-index a.entries.now c.loop-entry-test.true in
    (due_after (rw next at l.invariant.0) c.write_found.ensures.line, let x = c.write_found.ensures.short in omega arith)

pub returns-clause-lines : goal.returns-clause-lines
returns-clause-lines c =
    let a = c.args in
    let l = c.loop-entry in
    due_none (rw (lines_none (numbers a.abducibles.now) l.entry-index a.entries.now c.loop-entry-test.false) at l.invariant.0)
