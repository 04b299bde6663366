-- `importing::writing::write_run` meets its contract. The loop's invariant: the fields of the lines passed are written.
use mathlib.Core.Path.{◌≡◌}
use Prim.Native.Nat.{◌-◌}
use lib.ListN.{length}
use Rattle.text.specs.Briefly.{tag_byte}
use Rattle.importing.proofs.RunWriting.{Writing}
use Rattle.importing.proofs.writing.write_run.Given as goal

abbrev pub invariant-loop-line : goal.invariant-loop-line
invariant-loop-line l = Writing l.text (tag_byte l.kind) l.initial.buffer l.buffer l.at l.end × (length l.buffer ≡ length l.initial.buffer)

abbrev pub decreases-loop-line : goal.decreases-loop-line
decreases-loop-line l = length l.text - l.at
