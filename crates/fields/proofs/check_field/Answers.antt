-- `fields::check_field` meets its contract: at each `return` a law of `field_fault` takes the tests that led there.
use mathlib.Core.Path.{sym, ◌∙◌}
use Rattle.papers.proofs.FieldTests.{fault_cut, fault_stray, fault_full, fault_misfit, fault_short, fault_none}
use Rattle.fields.proofs.check_field.Goals as goal

pub returns-then-left-lt3 : goal.returns-then-left-lt3
returns-then-left-lt3 c = let a = c.args in fault_cut _ _ a.place a.bytes.now c.if-left-lt3.true

pub returns-then-bytes-place : goal.returns-then-bytes-place
returns-then-bytes-place c =
    let a = c.args in
    fault_stray _ _ a.place a.bytes.now c.if-left-lt3.false c.if-bytes-place.true

pub returns-then-full : goal.returns-then-full
returns-then-full c =
    let a = c.args in
    fault_full _ _ a.place a.bytes.now c.if-left-lt3.false c.if-bytes-place.false c.if-full.true

pub returns-then-not-length_allowed : goal.returns-then-not-length_allowed
returns-then-not-length_allowed c =
    let a = c.args in
    fault_misfit _ _ a.place a.bytes.now c.if-left-lt3.false c.if-bytes-place.false c.if-full.false c.number_at-size.ensures.0
    (sym c.length_allowed.ensures ∙ c.if-not-length_allowed.true)

pub returns-then-left-size : goal.returns-then-left-size
returns-then-left-size c =
    let a = c.args in
    fault_short _ _ a.place a.bytes.now c.if-left-lt3.false c.if-bytes-place.false c.if-full.false c.number_at-size.ensures.0
    (sym c.length_allowed.ensures ∙ c.if-not-length_allowed.false) c.if-left-size.true

pub returns : goal.returns
returns c =
    let a = c.args in
    fault_none _ _ a.place a.bytes.now c.if-left-lt3.false c.if-bytes-place.false c.if-full.false c.number_at-size.ensures.0
    (sym c.length_allowed.ensures ∙ c.if-not-length_allowed.false) c.if-left-size.false
