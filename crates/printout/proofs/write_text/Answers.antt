-- `printout::write_text` meets its contract.
use mathlib.Core.Path.{ap}
use Prim.Native.Nat.{ℕ}
use Rattle.papers.specs.declared.Contents.{Contents}
use Rattle.papers.specs.Reading.{read_papers}
use Rattle.papers.specs.Told.{papers_of}
use Rattle.papers.proofs.ReadersGot.{got_accepted, got_refused}
use Rattle.printout.specs.Output.{desk_text}
use Rattle.printout.proofs.write_text.Goals as goal

pub write_accepted-requires-clause-accepted : goal.write_accepted-requires-clause-accepted
write_accepted-requires-clause-accepted c =
    let q = got_accepted _ papers_of (read_papers c.args.file.now c.args.sheet.now) c.read_papers.ensures c.in-Ok.is in
    record { papers = q.value; is = q.is; told = ap (λ (x : Contents × ℕ). x.0) q.tells_it }

pub returns-in-Err-clause-text : goal.returns-in-Err-clause-text
unfolding desk_text
returns-in-Err-clause-text c =
    let e = got_refused _ papers_of (read_papers c.args.file.now c.args.sheet.now) c.read_papers.ensures c.in-Err.is in
    rw e (rw c.number.ensures at c.write_refused.ensures.line)
