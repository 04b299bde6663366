-- `valuation::judge_decoded` meets its contract.
use native.Mathlib.Omega.{arith}
use mathlib.Core.Path.{◌∙◌}
use Rattle.papers.specs.Reading.{program_in}
use Rattle.settling.proofs.DecodedLaws.{decoded_atoms, decoded_few, program_few}
use Rattle.verdicts.proofs.VerdictLaws.{asked_listed, verdict_lanes}
use Rattle.valuation.proofs.FirstLane.{first_explained, first_counted, first_filled}
use Rattle.valuation.proofs.judge_decoded.Goals as goal

pub write_values-requires : goal.write_values-requires
write_values-requires c =
    let file_in = c.requires.0.file_in in
    (omega (arith, c.judged.ensures, decoded_few file_in), omega (arith, c.judged.ensures, decoded_atoms file_in, c.requires.1))

pub explained_lanes-explained-requires : goal.explained_lanes-explained-requires
explained_lanes-explained-requires c = (decoded_few c.requires.0.file_in, asked_listed c.requires.0)

pub returns : goal.returns
returns c =
    let a = c.args in
    let d = a.papers.now in
    let p = program_in d.decoded.file.now in
    let file_in = c.requires.0.file_in in
    let s = c.settle-settled in
    let trues = s.result.model.t in
    let falses = s.result.model.f in
    let explained = c.explained_lanes-explained.result in
    let v =
    verdict_lanes p a.scenario trues falses s.result.rounds s.ensures.0 (program_few file_in) d.query.now explained c.requires.0.asked
    (rw (decoded_atoms file_in) c.explained_lanes-explained.ensures) in (
      c.in_lane.ensures ∙ first_explained p d.query.now a.scenario explained s.result.rounds v,
      first_counted p d.query.now a.scenario explained s.result.rounds v,
      first_filled p a.scenario d.decoded.contents.atoms trues falses s.result.rounds a.model.now _ (decoded_atoms file_in) s.ensures.0
          (rw c.judged.ensures at c.write_values.ensures),
    )
