-- `lanes::words::body_word` meets its contract. The loop's invariant: of the lanes, the body holds in those of the word in which the
-- literals from here on hold.
use Rattle.lanes.proofs.WordLaws.{WordTo}
use Rattle.lanes.proofs.words.body_word.Given as goal

abbrev pub invariant-loop-i : goal.invariant-loop-i
invariant-loop-i l = WordTo l.i l.body l.set l.negated l.lanes l.word
