-- `trying::Search::judge_agreeing` meets its contract: all lanes are judged, and kept to those that agree.
use Prim.Native.Nat.{ℕ, ◌<◌, ◌≤◌}
use lib.ListN.{get_or}
use Rattle.papers.specs.Reading.{program_in}
use Rattle.settling.proofs.DecodedLaws.{decoded_abducibles, few_abducibles, program_few}
use Rattle.verdicts.specs.declared.AskedFile.{AskedFile}
use Rattle.steps.specs.Explanations.{Problem}
use Rattle.stepping.specs.Stepping.{InLanes}
use Rattle.agreeing.proofs.HeldLanes.{held_lanes, all_lanes, held_cost}
use Rattle.trying.specs.Trying.{problem_in}
use Rattle.trying.proofs.JudgedLanes.{judged_lanes, judged_cost}
use Rattle.trying.proofs.Search.judge_agreeing.Goals as goal
use Rattle.trying.proofs.Search.judge_agreeing.Goals.{After-judge_lanes-verdicts}

pub agreeing_lanes-agreeing-requires : goal.agreeing_lanes-agreeing-requires
agreeing_lanes-agreeing-requires c = few_abducibles c.requires.file_in

-- ---- once the lanes are judged

module _ (c : After-judge_lanes-verdicts) where
  abbrev papers : AskedFile
  papers = c.args.self.now.papers

  -- The problem of the papers, whatever is held.
  abbrev problem : Problem
  problem = problem_in papers.decoded.file.now papers.query.now

  lanes : InLanes problem papers.decoded.contents.abducibles c.args.base c.judge_lanes-verdicts.result.explained c.judge_lanes-verdicts.result.rounds
  lanes = judged_lanes (program_in papers.decoded.file.now) papers.query.now c.judge_lanes-verdicts.ensures (decoded_abducibles c.requires.file_in)

  cost : (l : ℕ) → l < 64 → get_or c.judge_lanes-verdicts.result.rounds l 0 ≤ 1026
  cost = judged_cost (program_in papers.decoded.file.now) papers.query.now c.judge_lanes-verdicts.ensures (program_few c.requires.file_in)

pub returns-then-agreeing : goal.returns-then-agreeing
returns-then-agreeing c =
    let j = (goal.at.returns-then-agreeing c).After-judge_lanes-verdicts in
    let s = c.args.self.now in
    record {
      lanes = all_lanes (problem j) s.held s.papers.decoded.contents.abducibles c.args.base (lanes j)
          (rw c.from.ensures at c.agreeing_lanes-agreeing.ensures) c.if-agreeing.true;
      cost = cost j;
    }

pub returns : goal.returns
returns c =
    let j = (goal.at.returns c).After-judge_lanes-verdicts in
    let s = c.args.self.now in
    record {
      lanes = held_lanes (problem j) s.held s.papers.decoded.contents.abducibles c.args.base (lanes j)
          (rw c.from.ensures at c.agreeing_lanes-agreeing.ensures) c.agreeing_rounds.ensures;
      cost = held_cost 1026 c.agreeing_rounds.ensures (cost j);
    }
