-- `verdicts::AskedFile::judge_lanes` meets its contract.
use Rattle.papers.specs.Reading.{program_in}
use Rattle.settling.proofs.DecodedLaws.{decoded_atoms, decoded_few, program_few}
use Rattle.verdicts.proofs.VerdictLaws.{asked_listed, verdict_lanes}
use Rattle.verdicts.proofs.AskedFile.judge_lanes.Goals as goal

pub explained_lanes-explained-requires : goal.explained_lanes-explained-requires
explained_lanes-explained-requires c = (decoded_few c.requires.file_in, asked_listed c.requires)

pub returns : goal.returns
returns c =
    let settled = c.settle_words-rounds in
    let file_in = c.requires.file_in in
    verdict_lanes (program_in c.args.self.now.decoded.file.now) c.args.base settled.new.held.t settled.new.held.f settled.result settled.ensures.0
    (program_few file_in) c.args.self.now.query.now c.explained_lanes-explained.result c.requires.asked
    (rw (decoded_atoms file_in) c.explained_lanes-explained.ensures)
