-- `reading::file::read_abducibles` meets its contract.
use mathlib.Core.Path.{◌≡◌, refl}
use mathlib.Core.Bool.{false}
use Rattle.std.proofs.Common.{rules}
use Rattle.papers.specs.declared.Paper.TheVariants.{File}
use Rattle.papers.specs.Field.{read_field}
use Rattle.papers.specs.Reading.{read_abducibles}
use Rattle.papers.proofs.FieldGot.{Got, got_content}
use Rattle.papers.proofs.ReadersGot.{got_refused, ok_told, err_told, handed_on, check_passed, check_failed, mapped_passed, mapped_failed, failed_refuses}
use Rattle.reading.proofs.file.read_abducibles.Goals as goal
use Rattle.reading.proofs.file.read_abducibles.Goals.{In-Ok}

field : (c : In-Ok) → Got File 0x03 false 9 c.args.file.now c.in-Ok.content.now
field c = got_content _ _ _ _ _ c.read_field-read.ensures.told c.in-Ok.is

pub returns-in_default : goal.returns-in_default
unfolding read_abducibles
returns-in_default c =
    let e = got_refused _ _ (read_field File 0x03 false 9 c.args.file.now) c.read_field-read.ensures.told c.unwrap_err.ensures in
    err_told _ _ _ _ (rw e)

pub returns-in_err-map_err : goal.returns-in_err-map_err
unfolding read_abducibles
returns-in_err-map_err c =
    let m = mapped_failed c.check_abducibles.result _ _ c.in_err-map_err.ensures.cases in
    let at : c.in_err-map_err.field-0.0 ≡ record { fault = m.0; paper = File; place = 9 } = search (rules, m.2) in
    let f = field (goal.at.returns-in_err-map_err c).In-Ok in
    handed_on _ _ _ _ _ c.from_residual.ensures.1
    (rw (at, f.read) (failed_refuses _ File 9 _ (check_failed c.check_abducibles.ensures m.1)))

pub returns : goal.returns
unfolding read_abducibles
returns c =
    let f = field (goal.at.returns c).In-Ok in
    let none = check_passed c.check_abducibles.ensures (mapped_passed _ c.in_ok-map_err.ensures.variant) in
    ok_told _ _ _ (record { value = _; is = rw (f.read, none); tells_it = refl })
