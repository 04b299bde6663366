-- `printout::searching::Progress::go_on` meets its contract.
use lib.ListN.{length}
use Rattle.printout.specs.DeskSearch.{problem_on}
use Rattle.printout.proofs.DeskCalls.{Called, reports, made_call}
use Rattle.printout.proofs.searching.Progress.go_on.Goals as goal
use Rattle.printout.proofs.searching.Progress.go_on.Goals.{After-unwrap-report}

pub unwrap-report-requires : goal.unwrap-report-requires
unwrap-report-requires c =
    let a = c.args in
    let r = c.requires in
    reports a.file.now a.sheet.now r.0 (length a.dual.now) r.1.0 a.list.now a.self r.1.1 c.continue_search.result c.continue_search.ensures.0

made : (c : After-unwrap-report)
    → Called (problem_on c.args.file.now c.args.sheet.now) c.args.list.now c.args.self c.unwrap-report.result c.continue_search.new.list
made c =
    let a = c.args in
    let r = c.requires in
    let call = c.continue_search in
    made_call a.file.now a.sheet.now r.0 (length a.dual.now) r.1.0 a.list.now a.self r.1.1 call.result
    call.ensures.0 c.unwrap-report.ensures call.ensures.1.1

pub overflow_add-result : goal.overflow_add-result
overflow_add-result c = record { fits = rw c.from.ensures (made (goal.at.overflow_add-result c).After-unwrap-report).tried_fits }

pub overflow_add-result-2 : goal.overflow_add-result-2
overflow_add-result-2 c = record { fits = (made (goal.at.overflow_add-result-2 c).After-unwrap-report).rounds_fit }

pub returns : goal.returns
returns c = let m = made (goal.at.returns c).After-unwrap-report in (rw c.from.ensures m.stands, rw c.from.ensures m.gone)
