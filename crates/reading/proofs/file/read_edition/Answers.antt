-- `reading::file::read_edition` meets its contract.
use mathlib.Core.Path.{refl}
use mathlib.Core.Bool.{false}
use native.Mathlib.Omega.{arith}
use borrow.Author.Tests.{eq-eqb, ne_eqb}
use Rattle.papers.specs.declared.Paper.TheVariants.{File}
use Rattle.papers.specs.Field.{read_field}
use Rattle.papers.specs.Content.{edition_fault}
use Rattle.papers.specs.Reading.{read_edition}
use Rattle.papers.proofs.FieldGot.{Got, got_content, edition_length}
use Rattle.papers.proofs.ReadersGot.{got_refused, ok_told, err_told}
use Rattle.reading.proofs.file.read_edition.Goals as goal
use Rattle.reading.proofs.file.read_edition.Goals.{In-Ok}

field : (c : In-Ok) → Got File 0x01 false 0 c.args.file.now c.in-Ok.content.now
field c = got_content _ _ _ _ _ c.read_field-read.ensures.told c.in-Ok.is

pub returns-in_default : goal.returns-in_default
unfolding read_edition
returns-in_default c =
    let e = got_refused _ _ (read_field File 0x01 false 0 c.args.file.now) c.read_field-read.ensures.told c.unwrap_err.ensures in
    err_told _ _ _ _ (rw e)

pub bounds-content-0 : goal.bounds-content-0
bounds-content-0 c = omega (arith, edition_length _ (field (goal.at.bounds-content-0 c).In-Ok).whole.allowed)

pub returns-then-edition-ne1 : goal.returns-then-edition-ne1
unfolding read_edition edition_fault
returns-then-edition-ne1 c =
    let f = field (goal.at.returns-then-edition-ne1 c).In-Ok in
    rw c.at.ensures (err_told _ _ _ _ (rw (f.read, ne_eqb _ 1 c.if-edition-ne1.true)))

pub returns : goal.returns
unfolding read_edition edition_fault
returns c =
    let f = field (goal.at.returns c).In-Ok in
    ok_told _ _ _ (record { value = _; is = rw (f.read, eq-eqb _ 1 c.if-edition-ne1.false); tells_it = refl })
