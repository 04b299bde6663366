-- `content::check_abducibles` meets its contract. The loop's invariant: what is asked of all atoms is asked of those that are left.
use mathlib.Core.Path.{◌≡◌}
use Rattle.std.specs.Slice.Iter.{chunks_exact_rest, chunks_exact_size}
use Rattle.papers.specs.Field.{numbers}
use Rattle.papers.specs.Content.{abducibles_fault}
use Rattle.content.proofs.check_abducibles.Given as goal

abbrev pub invariant-loop-pair : goal.invariant-loop-pair
invariant-loop-pair l =
    let left = chunks_exact_rest l.pair-iterator in
    (chunks_exact_size l.pair-iterator ≡ 2)
    × (abducibles_fault l.atoms 0 (numbers l.content) ≡ abducibles_fault l.atoms l.least (numbers left))
