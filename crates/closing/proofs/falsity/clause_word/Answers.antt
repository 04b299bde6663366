-- `closing::falsity::clause_word` meets its contract. The loop's invariant: the word has the literals passed.
use native.Mathlib.Omega.{arith}
use Rattle.closing.proofs.ClauseWords.{some_to_none, some_to_below, some_to_more, some_to_all}
use Rattle.closing.proofs.falsity.clause_word.Goals as goal

pub loop-i-init : goal.loop-i-init
loop-i-init c = some_to_none _ _ _

pub word_of-word-requires : goal.word_of-word-requires
word_of-word-requires c =
    let l = c.loop-i in
    some_to_below _ _ _ l.i l.word l.invariant (omega arith) c.body_literal_in.ensures c.requires

pub loop-i-preserved : goal.loop-i-preserved
loop-i-preserved c =
    let l = c.loop-i in
    rw c.word_of-word.ensures
    (some_to_more _ _ _ l.i l.word l.invariant (omega arith) c.body_literal_in.ensures)

pub returns : goal.returns
returns c = let l = c.loop-i in some_to_all _ _ _ l.i l.word l.invariant (omega arith)
