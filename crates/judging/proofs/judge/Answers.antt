-- `judging::judge` meets its contract.
use borrow.Author.Tests.{lt-ltb, le-ltb, lt-leb}
use mathlib.Core.Path.{◌≡◌, sym, subst, ◌∙◌}
use mathlib.Core.Bool.{true, false}
use Prim.Native.Nat.{ℕ, ◌≤◌}
use native.Mathlib.Omega.{arith}
use lib.ListN.{length}
use Rattle.std.proofs.lemmas.Result.{err_from_is_err_and}
use Rattle.literals.specs.Numbering.{judged}
use Rattle.papers.specs.declared.Contents.{Contents}
use Rattle.papers.specs.Outcome.{accepted}
use Rattle.papers.specs.Reading.{Papers, read_file, read_papers, program_in}
use Rattle.papers.specs.Told.{tells, read_told, papers_of}
use Rattle.papers.proofs.ReadersGot.{got_accepted, got_refused, accepted_told}
use Rattle.papers.proofs.FileFacts.{told, program_valid, atoms_are}
use Rattle.papers.proofs.BothAccepted.{BothTold, both_told}
use Rattle.dual.specs.Bytes.{dual_of, filled}
use Rattle.dual_writer.proofs.BothPapers.{papers_in, both_read, both_asked, few_abducibles_lem, few_literals, scenarios_are}
use Rattle.dual_writer.proofs.BothPapers.{dual_fits, dual_refused, dual_error, dual_stays, dual_kept, dual_filled}
use Rattle.rows.specs.DualBytes.{DualStarts}
use Rattle.rows.proofs.EntryBytes.{filled_starts}
use Rattle.judging.proofs.JudgingLaws.{judged_refused, judged_short, judged_small, judged_past, judged_done}
use Rattle.judging.proofs.judge.Goals as goal
use Rattle.judging.proofs.judge.Goals.{In_ok-contents, After-new-accepted, In_ok-write_accepted, Else-not-listed, then-room, else-room}

-- ---- once both papers are accepted

module _ (c : In_ok-contents) where
  abbrev contents : Contents
  contents = c.in_ok-contents.contents

  abbrev literals : ℕ
  literals = c.in_ok-contents.literals

  answer : read_told papers_of (read_papers c.args.file.now c.args.sheet.now) ≡ tells (contents, literals)
  answer = accepted_told _ _ (got_accepted _ papers_of (read_papers c.args.file.now c.args.sheet.now) c.read_papers.ensures c.in_ok-contents.was)

  both : BothTold c.args.file.now c.args.sheet.now contents literals
  both = both_told c.args.file.now c.args.sheet.now _ _ answer

  few : literals ≤ 16
  few = few_literals both answer

  abbrev papers : Papers
  papers = papers_in c.args.file.now c.args.sheet.now literals

  read : read_papers c.args.file.now c.args.sheet.now ≡ accepted papers
  read = both_read both (λ i. (c.type_inv.sheet i).fits)

  atoms : papers.program.atoms ≡ contents.atoms
  atoms = atoms_are c.args.file.now _ both.answer

pub returns-in_err-contents : goal.returns-in_err-contents
returns-in_err-contents c =
    let a = c.args in
    let refused = got_refused _ papers_of (read_papers a.file.now a.sheet.now) c.read_papers.ensures c.in_err-contents.was in
    let p = err_from_is_err_and c.from_residual.result c.from_residual.ensures.1 in
    rw (p.1, p.2) (judged_refused _ refused a.scenario a.dual.now a.model.now)

pub scenario_count-requires : goal.scenario_count-requires
scenario_count-requires c = few_abducibles_lem (both (goal.at.scenario_count-requires c).In_ok-contents)

pub new-accepted-requires : goal.new-accepted-requires
new-accepted-requires c = (both (goal.at.new-accepted-requires c).In_ok-contents).answer

-- ---- once the file's folds are placed

program : (c : After-new-accepted) → read_file c.new-accepted.result.bytes.now ≡ accepted (papers (goal.at.After-new-accepted c).In_ok-contents).program
program c =
    let r = (goal.at.After-new-accepted c).In_ok-contents in
    rw c.new-accepted.ensures.0 (told c.args.file.now _ (both r).answer).is

pub returns-in_err-write_accepted : goal.returns-in_err-write_accepted
returns-in_err-write_accepted c =
    let a = c.args in
    let r = (goal.at.returns-in_err-write_accepted c).In_ok-contents in
    let is_read = program (goal.at.returns-in_err-write_accepted c).After-new-accepted in
    let ensured = c.write_accepted.ensures in
    let short = dual_refused is_read a.dual.now ensured.0 c.in_err-write_accepted.was in
    let is = dual_error is_read a.dual.now ensured.0 c.in_err-write_accepted.was in
    let p = err_from_is_err_and c.from_residual-in_err-write_accepted.result c.from_residual-in_err-write_accepted.ensures.1 in
    rw (p.1, p.2, is)
    (judged_short (papers r) (read r) a.scenario a.dual.now a.model.now short (dual_stays is_read _ a.dual.now ensured.1 short))

-- ---- once the dual is written

module _ (c : In_ok-write_accepted) where
  abbrev accepts : In_ok-contents
  accepts = (goal.at.In_ok-write_accepted c).In_ok-contents

  fits : length (dual_of (papers accepts).program) ≤ length c.args.dual.now
  fits = dual_fits (program (goal.at.In_ok-write_accepted c).After-new-accepted) c.args.dual.now c.write_accepted.ensures.0 c.in_ok-write_accepted.was

  kept : c.if-room.write_accepted ≡ false → c.write_accepted.new.dual ≡ c.args.dual.now
  kept e = dual_kept (program (goal.at.In_ok-write_accepted c).After-new-accepted) _ c.args.dual.now c.write_accepted.ensures.1 e

pub returns-then-not-room : goal.returns-then-not-room
returns-then-not-room c =
    let a = c.args in
    let w = (goal.at.returns-then-not-room c).In_ok-write_accepted in
    let r = accepts w in
    let small = c.if-not-room.true in
    let none : c.if-room.write_accepted ≡ false = elim c.if-room.branch [
      | then-room t ↦ absurd (omega arith)
      | else-room e ↦ e.write_accepted-is ∙ lt-leb c.judged.result (length a.model.now) small
    ] in
    judged_small (papers r) (read r) a.scenario a.dual.now a.model.now (fits w) (omega (arith, atoms r, c.judged.ensures)) (kept w none)

pub returns-then-not-listed : goal.returns-then-not-listed
returns-then-not-listed c =
    let a = c.args in
    let w = (goal.at.returns-then-not-listed c).In_ok-write_accepted in
    let r = accepts w in
    let past = c.if-not-listed.true in
    let none : c.if-room.write_accepted ≡ false = elim c.if-room.branch [
      | then-room t ↦ t.write_accepted-is ∙ le-ltb a.scenario c.scenario_count.result past
      | else-room e ↦ absurd (omega arith)
    ] in
    judged_past (papers r) (read r) a.scenario a.dual.now a.model.now (fits w) (omega (arith, atoms r, c.judged.ensures))
    (omega (arith, scenarios_are (both r) c.scenario_count.ensures)) (kept w none)

-- ---- once both tests are passed

module _ (c : Else-not-listed) where
  abbrev written : In_ok-write_accepted
  written = (goal.at.Else-not-listed c).In_ok-write_accepted

  allowed : c.if-room.write_accepted ≡ true
  allowed = elim c.if-room.branch [
    | then-room t ↦ t.write_accepted-is ∙ lt-ltb c.args.scenario c.scenario_count.result c.if-not-listed.false
    | else-room e ↦ absurd (omega arith)
  ]

  dual_is : c.write_accepted.new.dual ≡ filled (dual_of (papers (accepts written)).program) c.args.dual.now
  dual_is = dual_filled (program (goal.at.Else-not-listed c).After-new-accepted) _ c.args.dual.now c.write_accepted.ensures.1 allowed (fits written)

  large : judged (papers (accepts written)).program.atoms ≤ length c.args.model.now
  large = omega (arith, atoms (accepts written), c.judged.ensures, c.if-not-room.false)

pub overflow_mul-papers : goal.overflow_mul-papers
overflow_mul-papers c = let f = few (goal.at.overflow_mul-papers c).In_ok-contents in omega arith

pub overflow_add-papers : goal.overflow_add-papers
overflow_add-papers c = let f = few (goal.at.overflow_add-papers c).In_ok-contents in omega arith

pub slice_bounds-papers-end : goal.slice_bounds-papers-end
slice_bounds-papers-end c = let k = (both (goal.at.slice_bounds-papers-end c).In_ok-contents).within in omega arith

pub judge_accepted-requires : goal.judge_accepted-requires
judge_accepted-requires c =
    let a = c.args in
    let l = (goal.at.judge_accepted-requires c).Else-not-listed in
    let r = (goal.at.judge_accepted-requires c).In_ok-contents in
    let p = program_in a.file.now in
    let same = c.new-accepted.ensures.0 in (
      record {
        starts = rw same (subst (DualStarts p) (sym (dual_is l)) (filled_starts p (program_valid a.file.now _ (both r).answer) a.dual.now));
        asked = rw same (both_asked (both r) (λ i. (c.type_inv.sheet i).fits));
      },
      rw same (large l),
    )

pub returns : goal.returns
returns c =
    let ensured = rw c.new-accepted.ensures.0 at c.judge_accepted.ensures in
    let a = c.args in
    let l = (goal.at.returns c).Else-not-listed in
    let r = (goal.at.returns c).In_ok-contents in
    judged_done (papers r) (read r) a.scenario a.dual.now a.model.now (fits (written l)) (large l)
    (omega (arith, scenarios_are (both r) c.scenario_count.ensures, c.if-not-listed.false)) (dual_is l) ensured.0 ensured.1 ensured.2
