-- `found_lines::put_assumptions` meets its contract. The loop's invariant: the items of the abducibles that are left are due.
use mathlib.Core.Path.{◌≡◌}
use Prim.Native.Nat.{◌+◌, ◌*◌, ◌≤◌}
use lib.ListN.{length}
use Rattle.std.specs.Slice.Iter.{chunks_exact_rest, chunks_exact_size}
use Rattle.papers.specs.Field.{numbers}
use Rattle.decimals.specs.Text.{spaced}
use Rattle.found_lines.specs.FoundLine.{assumptions}
use Rattle.decimals.proofs.Printing.{Due}
use Rattle.found_lines.proofs.put_assumptions.Given as goal

abbrev pub invariant-loop-pair : goal.invariant-loop-pair
invariant-loop-pair l =
    let left = chunks_exact_rest l.pair-iterator in
    Due (spaced (assumptions (numbers l.abducibles) l.scenario)) l.initial.page (spaced (assumptions (numbers left) l.rest)) l.page
    × ((chunks_exact_size l.pair-iterator ≡ 2) × (l.page.at + 11 * length left ≤ l.initial.page.at + 11 * length l.abducibles))
