-- `sets::write_words` meets its contract. The loop's invariant: the words passed are written.
use Rattle.sets.specs.Writing.{WrittenBy}
use Rattle.sets.proofs.write_words.Given as goal

abbrev pub invariant-loop-o : goal.invariant-loop-o
invariant-loop-o g l = WrittenBy (goal.F-post g l.word) l.o l.initial.words l.words
