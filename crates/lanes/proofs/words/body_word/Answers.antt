-- `lanes::words::body_word` meets its contract. The loop's invariant: of the lanes, the body holds in those of the word in which the
-- literals from here on hold.
use native.Mathlib.Omega.{arith}
use Rattle.lanes.proofs.WordLaws.{word_ends, word_left, literal_below, word_goes_on}
use Rattle.lanes.proofs.words.body_word.Goals as goal

pub returns-then-word-eq0 : goal.returns-then-word-eq0
returns-then-word-eq0 c = let l = c.loop-i in word_left _ _ _ _ l.i l.word l.invariant c.if-word-eq0.true

pub word_of-word-requires : goal.word_of-word-requires
word_of-word-requires c =
    let l = c.loop-i in
    literal_below _ _ _ _ l.i l.word l.invariant (omega arith) c.body_literal_in.ensures 513 c.requires

pub loop-i-preserved : goal.loop-i-preserved
loop-i-preserved c =
    let l = c.loop-i in
    rw c.word_of-word.ensures (word_goes_on _ _ _ _ l.i l.word l.invariant (omega arith) c.body_literal_in.ensures)

pub returns : goal.returns
returns c = let l = c.loop-i in word_ends _ _ _ _ l.i l.word l.invariant (omega arith)
