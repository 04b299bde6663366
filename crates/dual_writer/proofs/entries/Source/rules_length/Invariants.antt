-- `dual_writer::entries::Source::rules_length` meets its contract. The loop's invariant: what the walk answers from the start is what it
-- answers from here.
use Prim.Native.Nat.{◌-◌}
use Rattle.papers.specs.Reading.{program_in}
use Rattle.dual_writer.specs.Chains.{number_from}
use Rattle.dual_writer.proofs.EntryLaws.{Walking}
use Rattle.dual_writer.proofs.entries.Source.rules_length.Given as goal

abbrev pub invariant-loop-ahead : goal.invariant-loop-ahead
invariant-loop-ahead l = Walking (program_in l.fn.self.file.now.bytes.now) l.fn.self.chains.now.next l.fn.o.0 l.ahead l.total

abbrev pub decreases-loop-ahead : goal.decreases-loop-ahead
decreases-loop-ahead l = 1280 - number_from l.ahead
