-- `rest::rest_of_paper` meets its contract.
use mathlib.Core.Path.{◌≡◌, ◌∙◌}
use native.Mathlib.Omega.{arith}
use lib.Seq.{drop-length}
use Rattle.papers.specs.Outcome.{refused}
use Rattle.papers.specs.Reading.{read_papers}
use Rattle.papers.specs.Told.{refusal_of, papers_of}
use Rattle.papers.proofs.ReadersGot.{got_accepted, got_refused}
use Rattle.papers.proofs.Placed.{refused_within}
use Rattle.rest.proofs.rest_of_paper.Goals as goal
use Rattle.rest.proofs.rest_of_paper.Goals.{In-Err}

-- ---- once one is refused

module _ (c : In-Err) where
  refusal_is : read_papers c.args.file.now c.args.sheet.now ≡ refused (refusal_of c.in-Err.refusal)
  refusal_is = got_refused _ papers_of _ c.read_papers.ensures c.in-Err.is

pub returns-in_default : goal.returns-in_default
returns-in_default c =
    let a = c.args in
    let both = got_accepted _ papers_of (read_papers a.file.now a.sheet.now) c.read_papers.ensures c.in_default.is in
    rw both.is (c.part_from.ensures.0 ∙ drop-length a.sheet.now, c.part_from.ensures.1 (omega arith))

pub returns-in-File : goal.returns-in-File
returns-in-File c =
    let a = c.args in
    let e = refusal_is (goal.at.returns-in-File c).In-Err in
    let within = rw c.in-File.is at (refused_within a.file.now a.sheet.now _ e) in
    rw (e, c.in-File.is) (c.part_from-in-File.ensures.0, c.part_from-in-File.ensures.1 within)

pub returns-in-Sheet : goal.returns-in-Sheet
returns-in-Sheet c =
    let a = c.args in
    let e = refusal_is (goal.at.returns-in-Sheet c).In-Err in
    let within = rw c.in-Sheet.is at (refused_within a.file.now a.sheet.now _ e) in
    rw (e, c.in-Sheet.is) (c.part_from-in-Sheet.ensures.0, c.part_from-in-Sheet.ensures.1 within)
