-- `printout::write_found_lines` meets its contract. The loop's invariant: the lines of the entries from this one on are due.
use Prim.Native.Nat.{◌+◌, ◌*◌, ◌≤◌}
use lib.ListN.{drop}
use Rattle.papers.specs.Field.{numbers}
use Rattle.decimals.proofs.Printing.{Due}
use Rattle.printout.specs.Output.{found_lines}
use Rattle.printout.proofs.write_found_lines.Given as goal

abbrev pub invariant-loop-entry : goal.invariant-loop-entry
invariant-loop-entry l =
    let lines = found_lines (numbers l.abducibles) in
    Due (lines l.entries) l.initial.page (lines (drop l.entry-index l.entries)) l.page × (l.page.at ≤ l.initial.page.at + 512 * l.entry-index)
