-- `dual_writer::writing::write_literal` meets its contract. The loop's invariant: the folds behind are written.
use mathlib.Core.Path.{refl, ◌∙◌}
use mathlib.Core.List.{List}
use Prim.Native.Nat.{ℕ, ◌+◌, ◌*◌, ◌≤◌}
use native.Mathlib.Omega.{arith}
use lib.ListN.{length, get_or}
use Rattle.std.proofs.Common.{None}
use Rattle.dual_writer.specs.Chains.{folds_at}
use Rattle.dual_writer.proofs.WritingLaws.{field_written, listed_none, listed_done, listed_room, listed_link, listed_next}
use Rattle.dual_writer.proofs.writing.write_literal.Goals as goal
use Rattle.dual_writer.proofs.writing.write_literal.Goals.{After-put_heading}

-- ---- once the heading is written

module _ (c : After-put_heading) where
  abbrev folds : List ℕ
  folds = folds_at c.args.chains.now.next (get_or c.args.chains.now.first c.args.o.0 None)

  -- There is room for the folds.
  fits : 5 + 2 * length folds ≤ length c.put_heading.new.buffer
  fits = omega (arith, c.put_heading.auto.buffer)

pub loop-ahead-init : goal.loop-ahead-init
loop-ahead-init c =
    let f = fits (goal.at.loop-ahead-init c).After-put_heading in
    (listed_none c.put_heading.new.buffer (omega arith) (rw c.first_of-ahead.ensures c.requires.0), refl)

pub put_number-requires : goal.put_number-requires
put_number-requires c =
    let f = fits (goal.at.put_number-requires c).After-put_heading in
    let l = c.loop-ahead in
    let r = listed_room _ _ _ _ _ _ l.invariant.0 f c.in-Some.fold c.in-Some.is in
    let k = listed_link _ _ _ _ _ _ l.invariant.0 f c.in-Some.fold c.in-Some.is in
    (omega (arith, l.invariant.1), omega (arith, k.few))

pub loop-ahead-preserved : goal.loop-ahead-preserved
loop-ahead-preserved c =
    let f = fits (goal.at.loop-ahead-preserved c).After-put_heading in
    let put = c.put_number in
    let l = c.loop-ahead in (
      rw (put.ensures, c.next_of-ahead.ensures) (listed_next _ _ _ _ _ _ l.invariant.0 f c.in-Some.fold c.in-Some.is),
      put.auto.buffer ∙ l.invariant.1,
    )

pub returns : goal.returns
returns c =
    let heading = (goal.at.returns c).After-put_heading in
    let a = c.args in
    let count = c.count_of-count in
    let l = c.loop-ahead in
    let d = listed_done _ _ _ _ _ _ l.invariant.0 (fits heading) c.in_default.is in (
      d.1,
      field_written 0x08 a.o.0 (2 + 2 * count.result) (folds heading) a.buffer.now c.put_heading.new.buffer l.buffer
          (omega (arith, count.ensures.0)) (omega arith) c.put_heading.ensures d.0,
    )
