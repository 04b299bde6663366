-- `importing::declaring::declare` meets its contract. The loop's invariant: the flags are those of the atoms declared so far.
use mathlib.Core.Path.{refl}
use Rattle.std.proofs.lemmas.Result.{err_from_is_err_and}
use Rattle.text.specs.declared.line.LineKind.TheVariants.{Abducible}
use Rattle.text.specs.Lines.{fresh}
use Rattle.text.specs.LineAnswers.{LineEnds}
use Rattle.importing.proofs.LineKinds.{same_kind, other_kind}
use Rattle.importing.proofs.LinesWalked.{lines_over, lines_refused, no_refusal}
use Rattle.importing.proofs.DeclareLaws.{declare_start, no_flags, declare_over, other_declared, again_declared, new_declared, none_left}
use Rattle.importing.proofs.declaring.declare.Goals as goal
use Rattle.importing.proofs.declaring.declare.Goals.{In-Some, else-eq-via-then-eq+else-not-flags-atom, else-eq-via-else-eq}

module _ (c : In-Some) where
  ends : LineEnds c.args.text.now fresh c.loop-line.at c.in-Some.line c.in-Some.end
  ends = rw c.in-Some.is at c.in_ok-line.ensures

pub loop-line-init : goal.loop-line-init
loop-line-init c = declare_start _ _ refl no_flags

pub returns-in_err-line : goal.returns-in_err-line
returns-in_err-line c =
    let p = err_from_is_err_and c.from_residual.result c.from_residual.ensures.1 in
    rw (p.1, p.2) (no_refusal c.args.text.now c.requires (lines_refused c.loop-line.invariant.walked c.in_err-line.ensures))

pub returns-then-room-eq0 : goal.returns-then-room-eq0
returns-then-room-eq0 c =
    none_left c.args.text.now c.requires c.loop-line.invariant (ends (goal.at.returns-then-room-eq0 c).In-Some)
    (same_kind c.in-Some.line.kind Abducible c.eq.ensures c.if-eq.true) c.from-atom.ensures c.if-not-flags-atom.true c.if-room-eq0.true

pub loop-line-preserved-else-room-eq0 : goal.loop-line-preserved-else-room-eq0
loop-line-preserved-else-room-eq0 c =
    new_declared c.args.text.now c.requires c.loop-line.invariant (ends (goal.at.loop-line-preserved-else-room-eq0 c).In-Some)
    (same_kind c.in-Some.line.kind Abducible c.eq.ensures c.if-eq.true) c.from-atom.ensures c.if-not-flags-atom.true c.if-room-eq0.false

pub loop-line-preserved : goal.loop-line-preserved
loop-line-preserved c =
    let m = ends (goal.at.loop-line-preserved c).In-Some in
    elim c.else-eq.branch [
      | else-eq-via-then-eq+else-not-flags-atom w ↦
          again_declared c.args.text.now c.requires c.loop-line.invariant m
          (same_kind c.in-Some.line.kind Abducible c.eq.ensures w.if-eq.true) c.from-atom.ensures
          w.if-not-flags-atom.false
      | else-eq-via-else-eq w ↦
          other_declared c.args.text.now c.requires c.loop-line.invariant m (other_kind c.in-Some.line.kind Abducible c.eq.ensures w.if-eq.false)
    ]

pub returns : goal.returns
returns c =
    let g = c.loop-line.invariant in
    declare_over c.args.text.now c.requires g (lines_over g.walked (rw c.in_default.is at c.in_ok-line.ensures))
