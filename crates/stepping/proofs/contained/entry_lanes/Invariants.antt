-- The digits left decide, in the lanes of the word.
use Rattle.stepping.proofs.ContainingLaws.{EntryTo}
use Rattle.stepping.proofs.contained.entry_lanes.Given as goal

abbrev pub invariant-loop-words : goal.invariant-loop-words
invariant-loop-words l = EntryTo l.k l.table l.entry l.lanes l.words-index l.word l.rest
