-- `trying::Search::try_next` meets its contract: the scenarios are passed over, or judged.
use mathlib.Core.Path.{sym, subst}
use Prim.Native.Nat.{ℕ, ◌≤◌}
use native.Mathlib.Omega.{arith}
use Rattle.settling.proofs.DecodedLaws.{decoded_abducibles, program_abducibles}
use Rattle.digits.proofs.Powers.{power_fits}
use Rattle.agreeing.specs.DisagreeingRuns.{DisagreeingRun}
use Rattle.trying.specs.Trying.{problem_in}
use Rattle.trying.proofs.PassedOver.{passed_tried, idle_run, span_run, span_none}
use Rattle.trying.proofs.Search.try_next.Goals as goal

pub passed_over-requires : goal.passed_over-requires
passed_over-requires c =
    let ready = c.requires.0 in
    let few = program_abducibles ready.prepared.file_in in
    (omega (arith, c.requires.1.there, power_fits ready.scenarios few), ready.room)

pub returns-then-run-gt0 : goal.returns-then-run-gt0
returns-then-run-gt0 c =
    let a = c.args in
    let s = a.self.now in
    let ready = c.requires.0 in
    let next = c.requires.1 in
    let P = problem_in s.papers.decoded.file.now s.papers.query.now in
    let same = sym (decoded_abducibles ready.prepared.file_in) in
    let run = subst (λ (k : ℕ). DisagreeingRun k s.held a.before.position a.run) same next.passing in
    let few : a.count ≤ a.run = omega (arith, next.few, span_run a.run c.if-run-gt0.true) in
    rw c.passed_over.ensures
    (passed_tried ready.scenarios ready.kept (idle_run P s.held a.before.position a.run a.count run few) next.there)

pub try_batch-requires : goal.try_batch-requires
try_batch-requires c =
    (c.requires.0, omega (arith, c.requires.1.few, span_none c.args.run c.if-run-gt0.false))
