-- `copying::copy_numbers` meets its contract. The loop's invariant: the first i numbers are copied.
use Rattle.copying.proofs.CopyLaws.{CopiedTo}
use Rattle.copying.proofs.copy_numbers.Given as goal

abbrev pub invariant-loop-i : goal.invariant-loop-i
invariant-loop-i l = CopiedTo l.bytes l.initial.values l.at l.i l.values
