-- `verdicts::Room::decode` meets its contract.
use mathlib.Core.Path.{refl}
use Rattle.verdicts.proofs.PapersDecoded.{query_part, papers_decoded}
use Rattle.verdicts.proofs.Room.decode.Goals as goal

pub returns : goal.returns
returns c =
    let m = c.prepare-counts.ensures in
    let file = c.args.papers.now.file.now in
    (papers_decoded file m _ c.requires refl refl refl refl refl refl refl, refl, refl, query_part file m)
