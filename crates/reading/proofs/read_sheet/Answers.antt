-- `reading::read_sheet` meets its contract: a law takes what the field, its test and the end gave to the answer.
use mathlib.Core.Path.{◌≡◌}
use mathlib.Core.Bool.{false}
use Prim.Native.Nat.{◌+◌}
use native.Mathlib.Omega.{arith}
use Rattle.std.proofs.Common.{rules}
use lib.ListN.{length}
use Rattle.papers.specs.declared.Paper.TheVariants.{Sheet}
use Rattle.papers.specs.Field.{numbers, read_field}
use Rattle.papers.specs.Content.{literals_fault}
use Rattle.papers.specs.Reading.{read_end, read_sheet}
use Rattle.papers.proofs.FieldGot.{Got, got_content}
use Rattle.papers.proofs.NumbersWalked.{count_numbers}
use Rattle.papers.proofs.ReadersGot.{got_accepted, got_refused, ok_told, err_told, handed_on, check_passed, check_failed, mapped_passed, mapped_failed}
use Rattle.papers.proofs.WholePapers.{sheet_fault, sheet_end, sheet_query}
use Rattle.reading.proofs.read_sheet.Goals as goal
use Rattle.reading.proofs.read_sheet.Goals.{In-Ok, In_ok-map_err}

field : (c : In-Ok) → Got Sheet 0x06 false 0 c.args.sheet.now c.in-Ok.query.now
field c = got_content _ _ _ _ _ c.read_field-read.ensures.told c.in-Ok.is

none : (c : In_ok-map_err) → literals_fault false c.args.atoms (numbers c.in-Ok.query.now) ≡ 0
none c = check_passed c.check_literals.ensures (mapped_passed _ c.in_ok-map_err.ensures.variant)

pub returns-in_default : goal.returns-in_default
unfolding read_sheet
returns-in_default c =
    let e = got_refused _ _ (read_field Sheet 0x06 false 0 c.args.sheet.now) c.read_field-read.ensures.told c.unwrap_err.ensures in
    err_told _ _ _ _ (rw e)

pub returns-in_err-map_err : goal.returns-in_err-map_err
returns-in_err-map_err c =
    let a = c.args in
    let m = mapped_failed c.check_literals.result _ _ c.in_err-map_err.ensures.cases in
    let at : c.in_err-map_err.field-0.0 ≡ record { fault = m.0; paper = Sheet; place = 0 } = search (rules, m.2) in
    let f = field (goal.at.returns-in_err-map_err c).In-Ok in
    handed_on _ _ _ _ _ c.from_residual.ensures.1
    (rw at (sheet_fault a.atoms a.sheet.now _ f.read _ (check_failed c.check_literals.ensures m.1)))

pub read_end-end-requires : goal.read_end-end-requires
read_end-end-requires c = omega (arith, (field (goal.at.read_end-end-requires c).In-Ok).whole.within)

pub returns-in_default-end : goal.returns-in_default-end
returns-in_default-end c =
    let a = c.args in
    let at = goal.at.returns-in_default-end c in
    let e = got_refused _ _ (read_end Sheet (3 + length c.in-Ok.query.now) a.sheet.now) c.read_end-end.ensures c.unwrap_err-in_default-end.ensures in
    err_told _ _ _ _
    (sheet_end a.atoms a.sheet.now _ (field at.In-Ok).read (none at.In_ok-map_err) e)

pub returns : goal.returns
returns c =
    let a = c.args in
    let at = goal.at.returns c in
    let end = got_accepted _ _ (read_end Sheet (3 + length c.in-Ok.query.now) a.sheet.now) c.read_end-end.ensures c.in-Ok-end.is in
    ok_told _ _ _ (record {
      value = _;
      is = sheet_query a.atoms a.sheet.now _ (field at.In-Ok).read (none at.In_ok-map_err) end.is;
      tells_it = count_numbers c.in-Ok.query.now;
    })
