-- `search::continue_search` meets its contract: the papers are refused, or `continue_accepted` answers.
use Rattle.std.proofs.lemmas.Result.{err_from_is_err_and}
use Rattle.papers.specs.Reading.{read_papers}
use Rattle.papers.specs.Told.{papers_of}
use Rattle.papers.proofs.ReadersGot.{got_accepted, got_refused, accepted_told}
use Rattle.search.proofs.ContinueLaws.{answers_refused}
use Rattle.search.proofs.continue_search.Goals as goal

pub returns-in_err-contents : goal.returns-in_err-contents
returns-in_err-contents c =
    let a = c.args in
    let p = err_from_is_err_and c.from_residual.result c.from_residual.ensures.1 in
    let refused = got_refused _ papers_of (read_papers a.file.now a.sheet.now) c.read_papers.ensures c.in_err-contents.was in
    rw (p.1, p.2) (answers_refused _ refused a.allowance a.dual.now a.from a.list.now)

pub continue_accepted-requires : goal.continue_accepted-requires
continue_accepted-requires c =
    let read = read_papers c.args.file.now c.args.sheet.now in
    accepted_told papers_of read (got_accepted _ papers_of read c.read_papers.ensures c.in_ok-contents.was)
