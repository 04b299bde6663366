-- `verdicts::explained_lanes` meets its contract.
use mathlib.Core.Path.{subst}
use Prim.Native.Nat.{ℕ}
use native.Mathlib.Omega.{arith}
use lib.ListN.{get_or}
use Rattle.lanes.specs.Words.{OtherLanes}
use Rattle.lanes.proofs.LaneLaws.{lane_not}
use Rattle.lanes.proofs.WordLaws.{literals_of}
use Rattle.verdicts.specs.VerdictLanes.{BothLanes}
use Rattle.verdicts.proofs.VerdictLaws.{explained_word}
use Rattle.verdicts.proofs.explained_lanes.Goals as goal

pub body_word-holding-requires : goal.body_word-holding-requires
body_word-holding-requires c = literals_of (omega (arith, c.requires.0)) c.requires.1

pub returns : goal.returns
returns c =
    let a = c.args in
    let both = subst (λ (n : ℕ). BothLanes n a.trues.now a.falses.now c.both_lanes-both.result) c.judged.ensures c.both_lanes-both.ensures in
    let untrue : OtherLanes (get_or a.trues.now c.falsum-falsum.result.0 0) _ =
    record { at = λ l h. lane_not l _ h (c.fits-trues c.falsum-falsum.result.0) } in
    let consistent : OtherLanes c.both_lanes-both.result _ = record { at = λ l h. lane_not l _ h (omega arith) } in
    explained_word a.atoms c.falsum-falsum.result.0 a.query.now a.trues.now a.falses.now _ c.body_word-holding.result c.both_lanes-both.result _
    c.falsum-falsum.ensures c.requires.1 untrue c.body_word-holding.ensures both consistent
