-- `sets::complement_words` meets its contract.
use borrow.Author.Rules.{rules}
use Rattle.lanes.specs.Words.{other_word}
use Rattle.sets.proofs.WritingLaws.{written_by}
use Rattle.sets.proofs.complement_words.Goals as goal

pub returns : goal.returns
unfolding other_word
returns c = written_by _ c.write_words.ensures (λ o x h k. search rules)
