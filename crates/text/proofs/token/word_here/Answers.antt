-- `text::token::word_here` meets its contract.
use Rattle.papers.proofs.NumbersWalked.{to_end}
use Rattle.text.proofs.WordLaws.{begins_is}
use Rattle.text.proofs.token.word_here.Goals as goal

pub returns-then-starts_with : goal.returns-then-starts_with
returns-then-starts_with c =
    let a = c.args in
    rw (← begins_is a.word.now _, ← to_end a.at a.text.now, ← c.starts_with.ensures.value, c.if-starts_with.true)

pub returns-else-starts_with : goal.returns-else-starts_with
returns-else-starts_with c =
    let a = c.args in
    rw (← begins_is a.word.now _, ← to_end a.at a.text.now, ← c.starts_with.ensures.value, c.if-starts_with.false)
