-- `importing::checking::check_run` meets its contract. The loop's invariant: what the checks come to from the start, they come to from here.
use mathlib.Core.Path.{◌≡◌}
use Prim.Native.Nat.{◌≤◌}
use native.Mathlib.Omega.{arith}
use Rattle.std.proofs.lemmas.Result.{err_from_is_err_and}
use Rattle.papers.specs.Told.{check_told}
use Rattle.papers.proofs.ToldLaws.{fault_not_0}
use Rattle.text.specs.Lines.{fresh}
use Rattle.text.specs.Briefly.{tag_byte}
use Rattle.text.specs.LineAnswers.{LineEnds}
use Rattle.importing.specs.Passes.{fixed_in, line_number}
use Rattle.importing.proofs.LineKinds.{same_kind, other_kind, tag_high}
use Rattle.importing.proofs.LinesWalked.{lines_over, lines_refused, no_refusal}
use Rattle.importing.proofs.RunLaws.{check_start, check_over, count_small, check_fails, some_left, check_own, check_other}
use Rattle.importing.proofs.checking.check_run.Goals as goal
use Rattle.importing.proofs.checking.check_run.Goals.{In-Some, Then-eq, In_default-check_line}

-- ---- a line

module _ (c : In-Some) where
  ends : LineEnds c.args.text.now fresh c.loop-line.at c.in-Some.line c.in-Some.end
  ends = rw c.in-Some.is at c.in_ok-line.ensures

  count : c.in-Some.line.count ≤ 18
  count =
      let p = c.requires in
      count_small c.args.text.now p.0 c.loop-line.invariant p.1.1.0 (tag_high c.args.kind) ends

-- ---- of the kind

module _ (c : Then-eq) where
  own : tag_byte c.in-Some.line.kind ≡ tag_byte c.args.kind
  own = same_kind _ _ c.eq.ensures c.if-eq.true

module _ (c : In_default-check_line) where
  passed : 0 ≡ line_number c.in-Some.line (tag_byte c.args.kind) c.loop-line.room (fixed_in c.in-Some.line (tag_byte c.args.kind) c.args.flags.now)
  unfolding check_told
  passed = rw (own (goal.at.In_default-check_line c).Then-eq) at c.in_default-check_line.ensures

  left : 1 ≤ c.loop-line.room
  left =
      let p = c.requires in
      some_left c.args.text.now p.0 c.loop-line.invariant p.1.1.0 (tag_high c.args.kind) (ends (goal.at.In_default-check_line c).In-Some)
      c.args.flags.now p.1.0 (own (goal.at.In_default-check_line c).Then-eq) passed

pub loop-line-init : goal.loop-line-init
loop-line-init c = check_start _ _ _

pub returns-in_err-line : goal.returns-in_err-line
returns-in_err-line c =
    let p = err_from_is_err_and c.from_residual.result c.from_residual.ensures.1 in
    rw (p.1, p.2) (no_refusal c.args.text.now c.requires.0 (lines_refused c.loop-line.invariant.walked c.in_err-line.ensures))

pub check_line-requires : goal.check_line-requires
check_line-requires c = count (goal.at.check_line-requires c).In-Some

pub returns-in-Err : goal.returns-in-Err
unfolding check_told
returns-in-Err c =
    let p = c.requires in
    check_fails c.args.text.now p.0 c.loop-line.invariant p.1.1.0 (tag_high c.args.kind) (ends (goal.at.returns-in-Err c).In-Some)
    c.args.flags.now p.1.0 (rw (own (goal.at.returns-in-Err c).Then-eq) at c.in-Err.ensures) (fault_not_0 c.in-Err.fault)

pub overflow_sub-room : goal.overflow_sub-room
overflow_sub-room c = left (goal.at.overflow_sub-room c).In_default-check_line

pub overflow_mul-size : goal.overflow_mul-size
overflow_mul-size c = omega (arith, count (goal.at.overflow_mul-size c).In-Some)

pub overflow_add-size : goal.overflow_add-size
overflow_add-size c = omega (arith, count (goal.at.overflow_add-size c).In-Some)

pub overflow_add-size-then-eq : goal.overflow_add-size-then-eq
overflow_add-size-then-eq c =
    omega (arith, count (goal.at.overflow_add-size-then-eq c).In-Some, c.loop-line.invariant.bound, c.requires.1.1.1)

pub loop-line-preserved-in_default-check_line : goal.loop-line-preserved-in_default-check_line
loop-line-preserved-in_default-check_line c =
    let p = c.requires in
    check_own c.args.text.now p.0 c.loop-line.invariant p.1.1.0 (tag_high c.args.kind) (ends (goal.at.loop-line-preserved-in_default-check_line c).In-Some)
    c.args.flags.now p.1.0 (own (goal.at.loop-line-preserved-in_default-check_line c).Then-eq)
    (passed (goal.at.loop-line-preserved-in_default-check_line c).In_default-check_line)

pub loop-line-preserved : goal.loop-line-preserved
loop-line-preserved c =
    let p = c.requires in
    check_other c.args.text.now p.0 c.loop-line.invariant p.1.1.0 (tag_high c.args.kind) (ends (goal.at.loop-line-preserved c).In-Some)
    c.args.flags.now p.1.0 (other_kind _ _ c.eq.ensures c.if-eq.false)

pub returns : goal.returns
returns c =
    let g = c.loop-line.invariant in
    check_over c.args.text.now c.requires.0 g (lines_over g.walked (rw c.in_default.is at c.in_ok-line.ensures))
