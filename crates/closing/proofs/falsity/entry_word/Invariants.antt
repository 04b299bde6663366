-- `closing::falsity::entry_word` meets its contract. The loop's invariant: of the lanes, each clause has a literal that holds in those of the word
-- in which the clauses that are still to come have one.
use lib.ListN.{get_or, length}
use Rattle.papers.specs.Reading.{program_in}
use Rattle.closing.proofs.EntryWords.{EntryTo}
use Rattle.closing.proofs.falsity.entry_word.Given as goal

abbrev pub invariant-loop-size : goal.invariant-loop-size
invariant-loop-size l = EntryTo (program_in l.file) (get_or l.rows l.place 0) l.truth l.falses l.rest l.lanes l.word

abbrev pub decreases-loop-size : goal.decreases-loop-size
decreases-loop-size l = length l.rest
