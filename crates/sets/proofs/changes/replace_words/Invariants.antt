-- `sets::changes::replace_words` meets its contract. The loop's invariant: the words passed are written, and compared with those before.
use Rattle.lanes.specs.Lanes.{Written, word_at}
use Rattle.sets.proofs.ChangeLaws.{Compared}
use Rattle.sets.proofs.changes.replace_words.Given as goal

abbrev pub invariant-loop-o : goal.invariant-loop-o
invariant-loop-o l = Written l.o (word_at l.by) l.initial.words l.words × Compared l.initial.words l.by l.changed l.o
