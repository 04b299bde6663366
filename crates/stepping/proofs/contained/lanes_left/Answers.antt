-- The entries from this one on are compared with the lanes left.
use native.Mathlib.Omega.{arith}
use borrow.Author.Rules.{rules}
use Rattle.stepping.proofs.ContainingLaws.{left_next, left_none, left_ends}
use Rattle.stepping.proofs.contained.lanes_left.Goals as goal

pub returns-then-left-eq0 : goal.returns-then-left-eq0
returns-then-left-eq0 c = left_none _ _ _ _ _ _ c.loop-entry.invariant c.if-left-eq0.true

pub loop-entry-preserved : goal.loop-entry-preserved
loop-entry-preserved c =
    left_next _ _ _ _ _ _ c.loop-entry.invariant (omega arith) c.entry_lanes.result (search rules) c.entry_lanes.ensures

pub returns : goal.returns
returns c = left_ends _ _ _ _ _ _ c.loop-entry.invariant (omega arith)
