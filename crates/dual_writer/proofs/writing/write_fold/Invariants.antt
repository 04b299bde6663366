-- `dual_writer::writing::write_fold` meets its contract. The loop's invariant: the conjugates of the first i literals are written.
use mathlib.Core.Path.{◌≡◌}
use lib.ListN.{length}
use Rattle.dual_writer.proofs.WritingLaws.{Conjugated}
use Rattle.dual_writer.proofs.writing.write_fold.Given as goal

abbrev pub invariant-loop-i : goal.invariant-loop-i
invariant-loop-i l = Conjugated l.initial.buffer l.body l.buffer l.i × (length l.buffer ≡ length l.initial.buffer)
