-- `reading::read_papers` meets its contract.
use lib.ListN.{length}
use Rattle.papers.specs.Reading.{read_file, read_sheet}
use Rattle.papers.specs.Answers.{contents_of}
use Rattle.papers.proofs.ReadersGot.{Read, got_accepted, got_refused, ok_told, handed_on}
use Rattle.papers.proofs.WholePapers.{papers_refused, papers_sheet, papers_both}
use Rattle.reading.proofs.read_papers.Goals as goal
use Rattle.reading.proofs.read_papers.Goals.{In_ok-contents}

filed : (c : In_ok-contents) → Read contents_of (read_file c.args.file.now) c.in_ok-contents.contents
filed c = got_accepted _ _ _ c.read_file.ensures c.in_ok-contents.was

pub returns-in_err-contents : goal.returns-in_err-contents
returns-in_err-contents c =
    let a = c.args in
    let e = got_refused _ _ (read_file a.file.now) c.read_file.ensures c.in_err-contents.was in
    handed_on _ _ _ _ _ c.from_residual.ensures.1 (papers_refused a.file.now a.sheet.now e)

pub returns-in_err-literals : goal.returns-in_err-literals
returns-in_err-literals c =
    let a = c.args in
    let e = got_refused _ length (read_sheet c.in_ok-contents.contents.atoms a.sheet.now) c.read_sheet.ensures c.in_err-literals.was in
    handed_on _ _ _ _ _ c.from_residual-in_err-literals.ensures.1
    (papers_sheet a.file.now a.sheet.now (filed (goal.at.returns-in_err-literals c).In_ok-contents) e)

pub returns : goal.returns
returns c =
    let a = c.args in
    let query = got_accepted _ length (read_sheet c.in_ok-contents.contents.atoms a.sheet.now) c.read_sheet.ensures c.in_ok-literals.was in
    ok_told _ _ _ (papers_both a.file.now a.sheet.now (filed (goal.at.returns c).In_ok-contents) query)
