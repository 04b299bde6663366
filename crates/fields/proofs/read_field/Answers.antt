-- `fields::read_field` meets its contract.
use mathlib.Core.Path.{◌≡◌, refl}
use native.Mathlib.Omega.{arith}
use Rattle.std.proofs.Common.{rules}
use Rattle.std.proofs.lemmas.Result.{err_from_is_err_and}
use Rattle.papers.proofs.FieldTests.{field_refused, field_heading, field_within, field_content}
use Rattle.papers.proofs.ReadersGot.{check_passed, check_failed, mapped_passed, mapped_failed, ok_told, err_told}
use Rattle.fields.proofs.read_field.Goals as goal

pub returns-in_err-map_err-clause-told : goal.returns-in_err-map_err-clause-told
returns-in_err-map_err-clause-told c =
    let a = c.args in
    let m = mapped_failed c.check_field.result _ _ c.in_err-map_err.ensures.cases in
    let at : c.in_err-map_err.field-0.0 ≡ record { fault = m.0; paper = a.paper; place = a.place } = search (rules, m.2) in
    let p = err_from_is_err_and c.from_residual.result c.from_residual.ensures.1 in
    rw (p.1, p.2, at) (err_told _ _ _ _ (field_refused a.paper _ _ a.place a.bytes.now _ (check_failed c.check_field.ensures m.1)))

pub number_at-requires : goal.number_at-requires
number_at-requires c =
    let a = c.args in
    let none = check_passed c.check_field.ensures (mapped_passed _ c.in_ok-map_err.ensures.variant) in
    omega (arith, field_heading a.paper _ _ a.place a.bytes.now none)

pub slice_bounds-result-end : goal.slice_bounds-result-end
slice_bounds-result-end c =
    let a = c.args in
    let none = check_passed c.check_field.ensures (mapped_passed _ c.in_ok-map_err.ensures.variant) in
    field_within a.paper _ _ a.place a.bytes.now none c.number_at.ensures.0

pub returns-clause-told : goal.returns-clause-told
returns-clause-told c =
    let a = c.args in
    let none = check_passed c.check_field.ensures (mapped_passed _ c.in_ok-map_err.ensures.variant) in
    ok_told _ _ _ (record { value = _; is = field_content a.paper _ _ a.place a.bytes.now none c.number_at.ensures.0; tells_it = refl })
