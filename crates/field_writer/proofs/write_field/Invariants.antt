-- `field_writer::write_field` meets its contract. The loop's invariant: the first i numbers are written.
use lib.ListN.{take}
use Rattle.dual.proofs.FilledLaws.{Numbered}
use Rattle.field_writer.proofs.write_field.Given as goal

abbrev pub invariant-loop-i : goal.invariant-loop-i
invariant-loop-i l = Numbered 3 l.initial.buffer l.buffer (take l.i l.numbers)
