-- `dual_writer::writing::write_fold` meets its contract. The loop's invariant: the conjugates of the first literals are written.
use mathlib.Core.Path.{◌≡◌, refl, ap, ◌∙◌}
use mathlib.Core.List.{map}
use Prim.Native.Nat.{◌+◌, ◌*◌, ◌≤◌}
use native.Mathlib.Omega.{arith}
use lib.ListN.{length, length-map}
use Rattle.literals.specs.declared.bodies.BodyLiteral.{BodyLiteral}
use Rattle.literals.specs.BodyLiterals.{body_number, body_conjugate, conjugate_number}
use Rattle.papers.specs.Field.{number_in, numbers}
use Rattle.dual_writer.proofs.WritingLaws.{field_written, conjugated_none, conjugated_more, conjugated_done}
use Rattle.dual_writer.proofs.writing.write_fold.Goals as goal
use Rattle.dual_writer.proofs.writing.write_fold.Goals.{After-body_number, After-put_heading}

-- ---- once the heading is written

-- There is room for the literals.
fits : (c : After-put_heading) → 5 + length c.args.body.now ≤ length c.put_heading.new.buffer
fits c = omega (arith, c.put_heading.auto.buffer)

-- ---- once the number of a literal's conjugate is at hand

-- It is that of the literal's own.
conjugated : (c : After-body_number) → c.body_number.result ≡ conjugate_number (number_in c.args.body.now (2 * c.loop-i.i))
unfolding conjugate_number
conjugated c =
    c.body_number.ensures
    ∙ ap body_number c.body_conjugate-conjugate.ensures.0
    ∙ ap (λ (l : BodyLiteral). body_number (body_conjugate l)) c.body_literal_at.ensures.0

pub loop-i-init : goal.loop-i-init
loop-i-init c =
    let f = fits (goal.at.loop-i-init c).After-put_heading in
    (conjugated_none c.put_heading.new.buffer c.args.body.now (omega arith), refl)

pub loop-i-preserved : goal.loop-i-preserved
loop-i-preserved c =
    let f = fits (goal.at.loop-i-preserved c).After-put_heading in
    let own = conjugated (goal.at.loop-i-preserved c).After-body_number in
    let put = c.put_number in
    let l = c.loop-i in
    (rw put.ensures (conjugated_more _ _ _ _ l.invariant.0 f c.loop-i-test.true own), put.auto.buffer ∙ l.invariant.1)

pub returns : goal.returns
returns c =
    let a = c.args in
    let f = fits (goal.at.returns c).After-put_heading in
    let literals = map conjugate_number (numbers a.body.now) in
    let l = length-map (numbers a.body.now) conjugate_number in
    let done = conjugated_done _ _ _ _ c.loop-i.invariant.0 f c.loop-i-test.false in (
      refl,
      field_written 0x09 a.fold.0 (2 + length a.body.now) literals a.buffer.now c.put_heading.new.buffer c.loop-i.buffer
          (omega (arith, c.requires.1.1.1)) (omega arith) c.put_heading.ensures done,
    )
