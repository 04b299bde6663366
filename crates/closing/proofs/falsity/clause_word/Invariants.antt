-- `closing::falsity::clause_word` meets its contract. The loop's invariant: the word has the literals passed.
use Rattle.closing.proofs.ClauseWords.{SomeTo}
use Rattle.closing.proofs.falsity.clause_word.Given as goal

abbrev pub invariant-loop-i : goal.invariant-loop-i
invariant-loop-i l = SomeTo l.clause l.truth l.falses l.i l.word
