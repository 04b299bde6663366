-- `reading::file::read_rules` meets its contract: a law takes what each read gave to the answer.
use mathlib.Core.Path.{◌≡◌, sym, ap, ◌∙◌}
use mathlib.Core.List.{List}
use Prim.Native.Nat.{ℕ, ◌+◌, ◌*◌, ◌/◌}
use native.Mathlib.Omega.{arith}
use lib.ListN.{length}
use Rattle.papers.specs.declared.Paper.TheVariants.{File}
use Rattle.papers.specs.Outcome.{Outcome}
use Rattle.papers.specs.Field.{numbers}
use Rattle.papers.specs.Reading.{Run, first_rule, read_run, read_end}
use Rattle.papers.specs.Answers.{run_of}
use Rattle.papers.specs.Told.{read_told}
use Rattle.papers.proofs.NumbersWalked.{count_numbers}
use Rattle.papers.proofs.ReadersGot.{Read, got_accepted, got_refused, ok_told, err_told}
use Rattle.papers.proofs.RulesToEnd.{rules_refused, rules_within, integrity_refused, integrity_within, end_refused, all_accepted}
use Rattle.reading.proofs.file.read_rules.Goals as goal
use Rattle.reading.proofs.file.read_rules.Goals.{After-read_run-read, In-Ok, In-Ok-then}

-- ---- once the rules are asked for

module _ (c : After-read_run-read) where
  abbrev listed : List ℕ
  listed = numbers c.args.abducibles.now

  -- A run of the file's fields.
  abbrev run : ℕ → ℕ → ℕ → Outcome Run
  run tag limit place = read_run tag c.args.atoms listed limit place c.args.file.now

  first_is : 12 + 2 * (length c.args.abducibles.now / 2) ≡ first_rule listed
  first_is = let e = count_numbers c.args.abducibles.now in omega arith

  rules_asked : read_told (run_of 0) (run 0x04 1024 (12 + 2 * (length c.args.abducibles.now / 2))) ≡ read_told (run_of 0) (run 0x04 1024 (first_rule listed))
  rules_asked = ap (λ (k : ℕ). read_told (run_of 0) (run 0x04 1024 k)) first_is

-- ---- once they are read

module _ (c : In-Ok) where
  abbrev asked : After-read_run-read
  asked = (goal.at.In-Ok c).After-read_run-read

  rules_ran : Read (run_of 0) (run asked 0x04 1024 (first_rule (listed asked))) c.in-Ok.rules
  rules_ran = got_accepted _ _ _ (c.read_run-read.ensures ∙ rules_asked asked) c.in-Ok.is

-- ---- once the integrity rules are read

module _ (c : In-Ok-then) where
  abbrev rules_read : In-Ok
  rules_read = (goal.at.In-Ok-then c).In-Ok

  integrity_ran : Read (run_of 0) (run (asked rules_read) 0x05 256 c.in-Ok.rules.next) c.in-Ok-then.integrity
  integrity_ran = got_accepted _ _ _ c.read_run-then.ensures c.in-Ok-then.is

pub read_run-read-requires-clause-place : goal.read_run-read-requires-clause-place
read_run-read-requires-clause-place c = let e = count_numbers c.args.abducibles.now in let r = c.requires in omega arith

pub returns-in_default : goal.returns-in_default
returns-in_default c =
    let a = c.args in
    let at = (goal.at.returns-in_default c).After-read_run-read in
    let e = got_refused _ (run_of 0) (run at 0x04 1024 (first_rule (listed at))) (c.read_run-read.ensures ∙ rules_asked at) c.unwrap_err.ensures in
    err_told _ _ _ _ (rules_refused a.atoms (listed at) a.file.now c.requires e)

pub read_run-then-requires-clause-place : goal.read_run-then-requires-clause-place
read_run-then-requires-clause-place c =
    let a = c.args in
    rules_within a.atoms (numbers a.abducibles.now) a.file.now c.requires (rules_ran (goal.at.read_run-then-requires-clause-place c).In-Ok)

pub returns-in_default-then : goal.returns-in_default-then
returns-in_default-then c =
    let a = c.args in
    let read = (goal.at.returns-in_default-then c).In-Ok in
    let e = got_refused _ (run_of 0) (run (asked read) 0x05 256 c.in-Ok.rules.next) c.read_run-then.ensures c.unwrap_err-in_default-then.ensures in
    err_told _ _ _ _
    (integrity_refused a.atoms (numbers a.abducibles.now) a.file.now c.requires (rules_ran read) e)

pub read_end-end-requires : goal.read_end-end-requires
read_end-end-requires c =
    let a = c.args in
    let read = (goal.at.read_end-end-requires c).In-Ok-then in
    integrity_within a.atoms (numbers a.abducibles.now) a.file.now c.requires (rules_ran (rules_read read)) (integrity_ran read)

pub returns-in_default-end : goal.returns-in_default-end
returns-in_default-end c =
    let a = c.args in
    let read = (goal.at.returns-in_default-end c).In-Ok-then in
    let e = got_refused _ _ (read_end File c.in-Ok-then.integrity.next a.file.now) c.read_end-end.ensures c.unwrap_err-in_default-end.ensures in
    err_told _ _ _ _
    (end_refused a.atoms (numbers a.abducibles.now) a.file.now c.requires (rules_ran (rules_read read)) (integrity_ran read) e)

pub returns : goal.returns
returns c =
    let a = c.args in
    let read = (goal.at.returns c).In-Ok-then in
    let end = got_accepted _ _ (read_end File c.in-Ok-then.integrity.next a.file.now) c.read_end-end.ensures c.in-Ok-end.is in
    let all = all_accepted a.atoms (numbers a.abducibles.now) a.file.now c.requires (rules_ran (rules_read read)) (integrity_ran read) end.is in
    ok_told _ _ _ (rw (sym (count_numbers a.abducibles.now)) all)
