-- `finder_c::finder_rest` meets its contract.
use mathlib.Core.Path.{ap, ◌∙◌}
use mathlib.Core.List.{List}
use Prim.Native.Nat.{ℕ}
use lib.ListN.{length}
use Rattle.papers.specs.Reading.{read_papers}
use Rattle.papers.specs.Told.{fault_number, read_told, refusal_told, papers_of}
use Rattle.papers.proofs.ReadersGot.{got_accepted, got_refused}
use Rattle.finder_c.specs.AnswerWords.{two, refusal_words}
use Rattle.finder_c.proofs.finder_rest.Goals as goal

pub returns-in-Ok : goal.returns-in-Ok
unfolding read_told
returns-in-Ok c = rw (got_accepted _ papers_of (read_papers c.args.file.now c.args.sheet.now) c.read_papers.ensures c.in-Ok.is).is

pub returns-in-Err : goal.returns-in-Err
unfolding read_told refusal_told
returns-in-Err c =
    let r = c.in-Err.refusal in
    let e = got_refused _ papers_of (read_papers c.args.file.now c.args.sheet.now) c.read_papers.ensures c.in-Err.is in
    let left = rw e at c.rest_of_paper.ensures.0 in
    rw e (c.refusal_words.ensures ∙ ap (λ (l : List ℕ). refusal_words (fault_number r.fault) r.paper r.place (two (length l) 0)) left)
