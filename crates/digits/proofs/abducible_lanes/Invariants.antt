-- `digits::abducible_lanes` meets its contract. The loop's invariant: the abducibles behind have their words.
use mathlib.Core.Path.{◌≡◌}
use Rattle.std.specs.Slice.Iter.{chunks_exact_rest, chunks_exact_size}
use Rattle.papers.specs.Reading.{program_in}
use Rattle.digits.proofs.SeedLaws.{Seeding}
use Rattle.digits.proofs.abducible_lanes.Given as goal

abbrev pub invariant-loop-pair : goal.invariant-loop-pair
invariant-loop-pair l =
    let left = chunks_exact_rest l.pair-iterator in
    (chunks_exact_size l.pair-iterator ≡ 2)
    × Seeding l.judged l.base (program_in l.file).abducibles l.initial.trues l.initial.falses l.trues l.falses left l.power
