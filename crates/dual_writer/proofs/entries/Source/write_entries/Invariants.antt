-- `dual_writer::entries::Source::write_entries` meets its contract. The loop's invariant: the entries of the objective literals passed are written.
use mathlib.Core.Path.{◌≡◌}
use lib.ListN.{length}
use Rattle.papers.specs.Reading.{program_in}
use Rattle.dual_writer.proofs.TableWriting.{Tabled}
use Rattle.dual_writer.proofs.entries.Source.write_entries.Given as goal

abbrev pub invariant-loop-o : goal.invariant-loop-o
invariant-loop-o l = Tabled (program_in l.fn.self.file.now.bytes.now) l.initial.buffer l.buffer l.o l.end × (length l.buffer ≡ length l.initial.buffer)
