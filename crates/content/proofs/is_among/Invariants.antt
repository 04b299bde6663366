-- `content::is_among` meets its contract. The loop's invariant: what is asked of all abducibles is asked of those that are left.
use mathlib.Core.Path.{◌≡◌}
use Rattle.std.specs.Slice.Iter.{chunks_exact_rest, chunks_exact_size}
use Rattle.papers.specs.Field.{numbers}
use Rattle.papers.specs.Content.{is_among}
use Rattle.content.proofs.is_among.Given as goal

abbrev pub invariant-loop-pair : goal.invariant-loop-pair
invariant-loop-pair l =
    let left = chunks_exact_rest l.pair-iterator in
    (chunks_exact_size l.pair-iterator ≡ 2)
    × (is_among (numbers l.abducibles) l.atom.0 ≡ is_among (numbers left) l.atom.0)
