-- `reading::file::read_end` meets its contract.
use mathlib.Core.Path.{refl}
use mathlib.Core.Bool.{false}
use borrow.Author.Tests.{eq-eqb, ne_eqb}
use Rattle.papers.specs.Field.{read_field}
use Rattle.papers.specs.Reading.{read_end}
use Rattle.papers.proofs.FieldGot.{Got, got_content}
use Rattle.papers.proofs.ReadersGot.{got_refused, ok_told, err_told}
use Rattle.reading.proofs.file.read_end.Goals as goal
use Rattle.reading.proofs.file.read_end.Goals.{In-Ok}

field : (c : In-Ok) → Got c.args.paper 0x7F false c.args.place c.args.bytes.now c.in-Ok.field-0.now
field c = got_content _ _ _ _ _ c.read_field-read.ensures.told c.in-Ok.is

pub returns-in_default : goal.returns-in_default
unfolding read_end
returns-in_default c =
    let a = c.args in
    let e = got_refused _ _ (read_field a.paper 0x7F false a.place a.bytes.now) c.read_field-read.ensures.told c.unwrap_err.ensures in
    err_told _ _ _ _ (rw e)

pub returns-then-bytes-after : goal.returns-then-bytes-after
unfolding read_end
returns-then-bytes-after c =
    let f = field (goal.at.returns-then-bytes-after c).In-Ok in
    rw c.at.ensures (err_told _ _ _ _ (rw (f.read, ne_eqb _ _ c.if-bytes-after.true)))

pub returns : goal.returns
unfolding read_end
returns c =
    let f = field (goal.at.returns c).In-Ok in
    ok_told _ _ _ (record { value = _; is = rw (f.read, eq-eqb _ _ c.if-bytes-after.false); tells_it = refl })
