-- `trying::search_accepted` meets its contract: no step is none, and else the papers are decoded and searched.
use mathlib.Core.Path.{sym, ap, ◌∙◌}
use native.Mathlib.Omega.{arith}
use Prim.Native.Nat.{ℕ}
use Rattle.papers.specs.Field.{numbers}
use Rattle.steps.specs.Continuing.{steps, begun}
use Rattle.steps.proofs.Runs.{steps_zero}
use Rattle.stepping.specs.declared.Progress.{Progress}
use Rattle.stepping.specs.Stepping.{work_of}
use Rattle.held.specs.HeldProblem.{held_problem}
use Rattle.trying.specs.Trying.{problem_in, report_by}
use Rattle.trying.proofs.CallReports.{unspoilt_kept, call_told, call_list}
use Rattle.trying.proofs.search_accepted.Goals as goal

pub returns-then-allowance-eq0 : goal.returns-then-allowance-eq0
returns-then-allowance-eq0 c =
    let a = c.args in
    let P = held_problem (problem_in a.papers.now.file.now.bytes.now (numbers a.papers.now.query.now)) a.from.held in
    let work = begun a.from.at a.list.now in
    let ran = ap (λ (n : ℕ). steps P n work) c.if-allowance-eq0.true ∙ steps_zero P work in (
      c.report_of.ensures
          ∙ ap (report_by a.total a.allowance a.from.held) c.untried-before.ensures
          ∙ call_told P c.requires.scenarios a.from.at a.list.now a.allowance a.from.held ran,
      call_list P c.requires.scenarios a.from.at a.list.now a.allowance a.from.held ran,
    )

pub try_all-reached-requires : goal.try_all-reached-requires
try_all-reached-requires c =
    let none = c.untried-before.ensures in
    let a = c.args in
    let sound = c.requires in
    let decoded = c.decode.ensures in
    let P = held_problem (problem_in a.papers.now.file.now.bytes.now (numbers a.papers.now.query.now)) a.from.held in (
      record {
        prepared = decoded.0;
        scenarios = rw decoded.1 sound.scenarios;
        kept = rw none (unspoilt_kept P sound.scenarios a.from.at a.list.now sound.unspoilt);
        room = rw none (omega arith);
      },
      ap (λ (b : Progress). b.tried) none,
    )

pub returns : goal.returns
returns c =
    let none = c.untried-before.ensures in
    let a = c.args in
    let P = held_problem (problem_in a.papers.now.file.now.bytes.now (numbers a.papers.now.query.now)) a.from.held in
    let told = rw (c.decode.ensures.1, c.decode.ensures.3) at c.try_all-reached.ensures.is in
    let ran = ap (λ (b : Progress). steps P a.allowance (work_of b a.list.now)) (sym none) ∙ told in
    let scenarios = c.requires.scenarios in (
      c.report_of-2.ensures ∙ call_told P scenarios a.from.at a.list.now a.allowance a.from.held ran,
      call_list P scenarios a.from.at a.list.now a.allowance a.from.held ran,
    )
