-- `importing::writing::write_run` meets its contract. The loop's invariant: the fields of the lines passed are written.
use mathlib.Core.Path.{refl, ap, ◌∙◌}
use Prim.Native.Nat.{◌+◌, ◌-◌, ◌≤◌}
use native.Mathlib.Omega.{arith}
use lib.ListN.{length, drop, length-drop}
use borrow.Rule.Slice.PartMut.{same_len_mid}
use Rattle.papers.proofs.NumbersWalked.{to_end}
use Rattle.dual.proofs.FilledLaws.{put_end}
use Rattle.text.specs.Lines.{fresh}
use Rattle.text.specs.Briefly.{tag_byte}
use Rattle.text.specs.LineAnswers.{LineEnds}
use Rattle.importing.specs.Passes.{LineFills, line_bytes}
use Rattle.importing.proofs.LinesWalked.{lines_none, lines_over}
use Rattle.importing.proofs.RunWriting.{writing_none, writing_done, line_room, line_fits, writing_more, size_here}
use Rattle.importing.proofs.writing.write_run.Goals as goal
use Rattle.importing.proofs.writing.write_run.Goals.{After-write_line-end, In-Ok-Some}

-- ---- once a line is read

module _ (c : In-Ok-Some) where
  ends : LineEnds c.args.text.now fresh c.loop-line.at c.in-Ok-Some.line c.in-Ok-Some.next
  ends = rw c.in-Ok-Some.field-0-is at c.in-Ok-Some.ensures

  -- There is room for it.
  room : c.loop-line.end + length (line_bytes (tag_byte c.args.kind) ends.line) ≤ length c.args.buffer.now
  room = line_room c.args.text.now c.requires c.loop-line.invariant.0 ends

  inside : c.loop-line.end ≤ length c.loop-line.buffer
  inside = omega (arith, room, c.loop-line.invariant.1)

-- ---- once it is written

module _ (c : After-write_line-end) where
  filled : LineFills c.args.text.now c.loop-line.at (tag_byte c.args.kind) (drop c.loop-line.end c.loop-line.buffer) c.write_line-end.result
      c.write_line-end.new.buffer
  filled = rw (to_end c.loop-line.end c.loop-line.buffer) at c.write_line-end.ensures

pub loop-line-init : goal.loop-line-init
loop-line-init c = (writing_none _ _ _, refl)

pub write_line-end-requires : goal.write_line-end-requires
write_line-end-requires c =
    let at = c.loop-line in
    let d = length-drop at.end at.buffer in
    let here = (goal.at.write_line-end-requires c).In-Ok-Some in
    line_fits c.args.text.now c.requires at.invariant.0 (ends here) (ap length (to_end at.end at.buffer)) (omega (arith, inside here, at.invariant.1))

pub overflow_add-end : goal.overflow_add-end
overflow_add-end c =
    let here = (goal.at.overflow_add-end c).In-Ok-Some in
    let size = size_here c.args.text.now c.requires c.loop-line.invariant.0 (ends here) (filled (goal.at.overflow_add-end c).After-write_line-end) in
    omega (arith, room here, size)

pub loop-line-preserved : goal.loop-line-preserved
loop-line-preserved c =
    let end = c.loop-line.end in
    let buffer = c.loop-line.buffer in
    let part = c.write_line-end.new.buffer in
    let here = (goal.at.loop-line-preserved c).In-Ok-Some in (
      rw (put_end end buffer part)
          (writing_more c.args.text.now c.requires c.loop-line.invariant.0 (ends here) (filled (goal.at.loop-line-preserved c).After-write_line-end)),
      same_len_mid end (length buffer - end) buffer part c.write_line-end.auto.buffer ∙ c.loop-line.invariant.1,
    )

pub shape_of-buffer-in_default : goal.shape_of-buffer-in_default
shape_of-buffer-in_default c = c.loop-line.invariant.1

pub returns-in_default : goal.returns-in_default
returns-in_default c =
    let g = c.loop-line.invariant.0 in
    writing_done c.args.text.now (tag_byte c.args.kind) c.requires.read g (lines_over g.walked (lines_none _ _ c.in_default.ensures (cc)))
