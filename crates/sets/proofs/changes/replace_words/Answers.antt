-- `sets::changes::replace_words` meets its contract. The loop's invariant: the words passed are written, and compared with those before.
use mathlib.Core.Path.{◌≡◌}
use native.Mathlib.Omega.{arith}
use lib.ListN.{get_or}
use Rattle.lanes.specs.Lanes.{word_at}
use Rattle.sets.proofs.ChangeLaws.{compared_none, compared_more, compared_all}
use Rattle.lanes.proofs.LaneLaws.{written_none, written_more}
use Rattle.sets.proofs.changes.replace_words.Goals as goal

pub loop-o-init : goal.loop-o-init
loop-o-init c = let a = c.args in (written_none (word_at a.by.now) a.words.now, compared_none a.words.now a.by.now)

pub loop-o-preserved : goal.loop-o-preserved
loop-o-preserved c =
    let l = c.loop-o in
    let a = c.args in
    let same : get_or l.words l.o 0 ≡ get_or a.words.now l.o 0 = l.invariant.0.beyond.at l.o (omega arith) in (
      written_more (word_at a.by.now) l.o a.words.now l.words (omega arith) l.invariant.0,
      rw same (compared_more a.words.now a.by.now l.changed l.o l.invariant.1),
    )

pub returns : goal.returns
returns c =
    let l = c.loop-o in
    let a = c.args in
    let e : l.o ≡ a.count = omega arith in
    (compared_all _ _ _ _ (rw e at l.invariant.1), rw e at l.invariant.0)
