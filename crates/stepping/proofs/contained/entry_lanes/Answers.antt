-- The digits left decide, in the lanes of the word.
use Prim.Native.Nat.{◌<◌}
use mathlib.Core.List.{[]}
use native.Mathlib.Omega.{arith}
use lib.Seq.{get_or-take}
use Rattle.stepping.proofs.ContainingLaws.{entry_next, entry_zero, entry_none, entry_ends}
use Rattle.stepping.proofs.contained.entry_lanes.Goals as goal
use Rattle.stepping.proofs.contained.entry_lanes.Goals.{then-rest-eq0-via-then-rest-eq0, then-rest-eq0-via-else-rest-eq0+then-word-eq0}

pub returns-then-rest-eq0 : goal.returns-then-rest-eq0
returns-then-rest-eq0 c = elim c.then-rest-eq0.branch [
  | then-rest-eq0-via-then-rest-eq0 w ↦ entry_zero _ _ _ _ _ _ _ c.loop-words.invariant w.if-rest-eq0.true
  | then-rest-eq0-via-else-rest-eq0+then-word-eq0 w ↦ entry_none _ _ _ _ _ _ _ c.loop-words.invariant w.if-word-eq0.true
]

pub loop-words-preserved : goal.loop-words-preserved
loop-words-preserved c =
    let inside : c.loop-words.words-index < c.args.k = omega arith in
    rw (get_or-take c.args.k c.args.table.now c.loop-words.words-index [] inside)
    (entry_next _ _ _ _ _ _ _ c.loop-words.invariant inside)

pub returns : goal.returns
returns c = entry_ends _ _ _ _ _ _ _ c.loop-words.invariant (omega arith)
