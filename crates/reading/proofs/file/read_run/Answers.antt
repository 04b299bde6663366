-- `reading::file::read_run` meets its contract.
use mathlib.Core.Path.{◌≡◌, sym, ap, ◌∙◌}
use mathlib.Core.Bool.{false}
use mathlib.Core.List.{List, []}
use Prim.Native.Nat.{ℕ, suc, ◌<◌, ◌+◌, ◌-◌, ◌*◌}
use native.Mathlib.Decide.{ℕ_discrete}
use native.Mathlib.Nat.{sub-zero}
use native.Mathlib.Omega.{arith}
use borrow.Author.Tests.{eq-eqb, ne_eqb, eqb-false}
use lib.Dec.{eqb}
use lib.ListN.{length, get_or, drop}
use Rattle.std.proofs.Common.{rules}
use Rattle.papers.specs.declared.Paper.TheVariants.{File}
use Rattle.papers.specs.Outcome.{Outcome, accepted}
use Rattle.papers.specs.Field.{numbers, fewest, read_field}
use Rattle.papers.specs.Content.{body_fault}
use Rattle.papers.specs.Reading.{Run, run_from, read_run}
use Rattle.papers.specs.Answers.{run_of}
use Rattle.papers.specs.Told.{read_told}
use Rattle.papers.proofs.FieldGot.{Got, got_content, pairs_length}
use Rattle.papers.proofs.ReadersGot.{got_refused, ok_told, err_told, handed_on, check_passed, check_failed, mapped_passed, mapped_failed}
use Rattle.papers.proofs.RunTurn.{tag_found, tag_other, run_ended, run_refused, run_fault, run_next}
use Rattle.reading.proofs.file.read_run.Goals as goal
use Rattle.reading.proofs.file.read_run.Goals.{After-read_field-read, In-Ok, In_ok-map_err}

-- ---- once a field is asked for

module _ (c : After-read_field-read) where
  abbrev file : List ℕ
  file = c.args.file.now

  abbrev next : ℕ
  next = c.loop-place.run.next

  abbrev count : ℕ
  count = c.loop-place.run.count

  -- The run from a place on, where so many more may follow.
  abbrev run : ℕ → ℕ → Outcome Run
  run room at = read_run c.args.tag c.args.atoms (numbers c.args.abducibles.now) room at file

  tagged : get_or (drop next file) 0 0 ≡ c.args.tag
  tagged = tag_found _ next file (rw c.tag_at.ensures at (sym c.eq.ensures ∙ c.loop-place-test.true))

-- ---- once it is whole

module _ (c : In-Ok) where
  abbrev asked : After-read_field-read
  asked = (goal.at.In-Ok c).After-read_field-read

  abbrev content : List ℕ
  content = c.in-Ok.content.now

  -- How many more may follow it.
  abbrev room : ℕ
  room = c.args.limit - (count asked + 1)

  field : Got File c.args.tag (eqb (count asked) c.args.limit) (next asked) (file asked) content
  field = got_content _ _ _ _ _ c.read_field-read.ensures.told c.in-Ok.is

  -- So there was room for it.
  more : count asked < c.args.limit
  more = elim (ℕ_discrete (count asked) c.args.limit) [
    | yes e ↦ absurd (eqb-false _ _ field.whole.room e)
    | no e ↦ let few = c.loop-place.invariant.few in omega arith
  ]

  read : read_field File c.args.tag false (next asked) (file asked) ≡ accepted content
  read = rw field.whole.room at field.read

  -- The whole run is that from here on, with room for this field and those after it.
  same_here : read_told (run_of 0) (run asked c.args.limit c.args.from) ≡ read_told (run_of (count asked)) (run asked (suc room) (next asked))
  same_here =
      let left : c.args.limit - count asked ≡ suc room = omega (arith, more) in
      c.loop-place.invariant.same ∙ ap (λ (k : ℕ). read_told (run_of (count asked)) (run asked k (next asked))) left

-- ---- once it has passed its test

passed : (c : In_ok-map_err)
    → body_fault c.args.tag c.args.atoms (numbers c.args.abducibles.now) (numbers c.in-Ok.content.now) ≡ 0
passed c = check_passed c.check_body.ensures (mapped_passed _ c.in_ok-map_err.ensures.variant)

pub loop-place-init : goal.loop-place-init
loop-place-init c = record { within = c.requires.place; few = omega arith; same = rw sub-zero }

pub returns-in_default : goal.returns-in_default
returns-in_default c =
    let a = c.args in
    let here = (goal.at.returns-in_default c).After-read_field-read in
    let few = c.loop-place.invariant.few in
    let full = eqb (count here) a.limit in
    let e = got_refused _ _ (read_field File a.tag full (next here) (file here)) c.read_field-read.ensures.told c.unwrap_err.ensures in
    err_told _ _ _ _
    (run_refused a.tag a.atoms _ (file here) (next here) (tagged here) (a.limit - count here) full (λ z. eq-eqb (count here) a.limit (omega arith))
    (λ z. ne_eqb (count here) a.limit (λ e. z (omega arith))) e)
    ∙ sym c.loop-place.invariant.same

pub check_body-requires : goal.check_body-requires
unfolding fewest
check_body-requires c = λ e.
    let here = (goal.at.check_body-requires c).In-Ok in
    let least = (pairs_length _ _ c.requires.tag.1 (field here).whole.allowed).least in
    let head = ap (λ (t : ℕ). 2 * fewest t) e in
    omega arith

pub returns-in_err-map_err : goal.returns-in_err-map_err
returns-in_err-map_err c =
    let a = c.args in
    let here = (goal.at.returns-in_err-map_err c).In-Ok in
    let m = mapped_failed c.check_body.result _ _ c.in_err-map_err.ensures.cases in
    let at : c.in_err-map_err.field-0.0 ≡ record { fault = m.0; paper = File; place = next (asked here) } = search (rules, m.2) in
    handed_on _ _ _ _ _ c.from_residual.ensures.1
    (rw at
    (run_fault a.tag a.atoms _ (file (asked here)) (next (asked here)) (tagged (asked here)) (room here) _ (read here) _
    (check_failed c.check_body.ensures m.1)))
    ∙ sym (same_here here)

pub overflow_add-run-in-loop-place-2 : goal.overflow_add-run-in-loop-place-2
overflow_add-run-in-loop-place-2 c = let w = (field (goal.at.overflow_add-run-in-loop-place-2 c).In-Ok).whole.within in omega arith

pub loop-place-smaller : goal.loop-place-smaller
loop-place-smaller c = let m = more (goal.at.loop-place-smaller c).In-Ok in omega arith

pub loop-place-preserved : goal.loop-place-preserved
loop-place-preserved c =
    let a = c.args in
    let here = (goal.at.loop-place-preserved c).In-Ok in
    let after = next (asked here) + 3 + length (content here) in
    let place : after ≡ next (asked here) + (3 + length (content here)) = omega arith in
    record {
      within = omega (arith, (field here).whole.within);
      few = omega (arith, more here);
      same = same_here here
          ∙ run_next a.tag a.atoms _ (file (asked here)) (next (asked here)) (tagged (asked here)) (room here) _ (read here) (count (asked here))
          (passed (goal.at.loop-place-preserved c).In_ok-map_err)
          ∙ ap (λ (k : ℕ). read_told (run_of (count (asked here) + 1)) (run (asked here) (room here) k)) place;
    }

pub returns : goal.returns
returns c =
    let a = c.args in
    let run = c.loop-place.run in
    let other = tag_other _ run.next a.file.now c.requires.tag.0 (rw c.tag_at.ensures at (sym c.eq.ensures ∙ c.loop-place-test.false)) in
    let counted : run.count + 0 ≡ run.count = omega arith in
    ok_told _ _ _ (record {
      value = run_from [] run.next;
      is = run_ended a.tag a.atoms _ a.file.now run.next (a.limit - run.count) other;
      tells_it = λ i. record { count = counted i; next = run.next };
    })
    ∙ sym c.loop-place.invariant.same
