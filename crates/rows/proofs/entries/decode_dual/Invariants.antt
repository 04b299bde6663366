-- `rows::entries::decode_dual` meets its contract. The loop's invariant: the rows of the objective literals passed are decoded, and the entries of the
-- others stand at the place.
use Rattle.papers.specs.Reading.{program_in}
use Rattle.rows.specs.Rows.{entry_rows}
use Rattle.rows.specs.DualBytes.{EntriesAt}
use Rattle.rows.proofs.DecodedLaws.{DecodedTo}
use Rattle.rows.proofs.entries.decode_dual.Given as goal

abbrev pub invariant-loop-o : goal.invariant-loop-o
invariant-loop-o l =
    EntriesAt (program_in l.file) l.dual l.o l.reached.place
    × DecodedTo (entry_rows (program_in l.file)) l.initial.numbers l.initial.starts l.o l.reached.at l.numbers l.starts
