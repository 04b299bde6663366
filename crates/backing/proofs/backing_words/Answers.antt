-- `backing::backing_words` meets its contract.
use borrow.Author.Rules.{rules}
use Rattle.sets.proofs.WritingLaws.{written_by}
use Rattle.backing.proofs.backing_words.Goals as goal

pub returns : goal.returns
returns c = rw (← c.judged.ensures) (written_by _ c.write_words.ensures (λ o x h k. search rules))
