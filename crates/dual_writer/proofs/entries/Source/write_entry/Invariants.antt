-- `dual_writer::entries::Source::write_entry` meets its contract. The loop's invariant: the literal's field and those of the folds behind are written.
use mathlib.Core.Path.{◌≡◌}
use Prim.Native.Nat.{◌-◌}
use lib.ListN.{length}
use Rattle.papers.specs.Reading.{program_in}
use Rattle.dual_writer.specs.Chains.{number_from}
use Rattle.dual_writer.proofs.EntryWriting.{Entered}
use Rattle.dual_writer.proofs.entries.Source.write_entry.Given as goal

abbrev pub invariant-loop-ahead : goal.invariant-loop-ahead
invariant-loop-ahead l =
    Entered (program_in l.fn.self.file.now.bytes.now) l.fn.self.chains.now.next l.fn.o.0 l.initial.end l.initial.buffer l.buffer l.ahead l.end
    × (length l.buffer ≡ length l.initial.buffer)

abbrev pub decreases-loop-ahead : goal.decreases-loop-ahead
decreases-loop-ahead l = 1280 - number_from l.ahead
