-- `field_writer::write_field` meets its contract. The loop's invariant: the first i numbers are written.
use mathlib.Core.Path.{◌≡◌, refl, sym, ap, ◌∙◌}
use Prim.Native.Nat.{ℕ, ◌+◌, ◌*◌}
use native.Mathlib.Omega.{arith}
use lib.ListN.{length, take, length-set}
use lib.Seq.{take_all}
use Rattle.papers.specs.Encoding.{encode_numbers, encode_field}
use Rattle.papers.proofs.Sizes.{length_field}
use Rattle.papers.proofs.NumberLaws.{length_encoded}
use Rattle.dual.proofs.FilledLaws.{filled_three}
use Rattle.field_writer.proofs.FieldWriting.{fields_none, fields_more, field_filled}
use Rattle.field_writer.proofs.write_field.Goals as goal
use Rattle.field_writer.proofs.write_field.Goals.{After-put_number}

-- ---- once the heading is written

module _ (c : After-put_number) where
  kept : length c.put_number.new.buffer ≡ length c.args.buffer.now
  kept = c.put_number.auto.buffer ∙ simp length-set

pub put_number-requires : goal.put_number-requires
put_number-requires c = (simp length-set (omega arith), omega arith)

pub loop-i-init : goal.loop-i-init
loop-i-init c =
    let room = kept (goal.at.loop-i-init c).After-put_number in
    fields_none c.args.numbers.now c.put_number.new.buffer (omega arith)

pub put_number-requires-in-loop-i : goal.put_number-requires-in-loop-i
put_number-requires-in-loop-i c =
    let room = kept (goal.at.put_number-requires-in-loop-i c).After-put_number in
    let fits = c.type_inv.numbers c.loop-i.i in
    (omega (arith, c.loop-i.auto.buffer), omega (arith, c.from.ensures))

pub loop-i-preserved : goal.loop-i-preserved
loop-i-preserved c =
    let room = kept (goal.at.loop-i-preserved c).After-put_number in
    let l = c.loop-i in
    rw c.put_number-in-loop-i.ensures
    (fields_more c.args.numbers.now c.put_number.new.buffer l.buffer l.i l.invariant (omega arith) c.loop-i-test.true c.from.ensures)

pub shape_of-buffer : goal.shape_of-buffer
shape_of-buffer c = c.loop-i.auto.buffer ∙ kept (goal.at.shape_of-buffer c).After-put_number

pub returns : goal.returns
returns c =
    let a = c.args in
    let ns = a.numbers.now in
    let l = c.loop-i in
    let whole : take l.i ns ≡ ns = take_all l.i ns (omega (arith, c.loop-i-test.false)) in
    let opened = c.put_number.ensures ∙ filled_three a.buffer.now a.tag _ _ (omega arith) in
    let size : length (encode_field a.tag (encode_numbers ns)) ≡ 3 + 2 * length ns =
    length_field a.tag (encode_numbers ns) ∙ ap (λ (k : ℕ). 3 + k) (length_encoded ns) in (
      sym size,
      field_filled a.tag (2 * length ns) ns a.buffer.now c.put_number.new.buffer l.buffer refl (omega arith) opened (rw whole at l.invariant),
    )
