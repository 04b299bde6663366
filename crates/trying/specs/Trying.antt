-- A call over accepted papers: the problem that they come to, what is told of it, and what its functions require.
use Rattle.std.specs.Prelude.{◌≡◌, false, cond, List, ℕ, ◌+◌, ◌^◌, ◌<◌, ◌≤◌, eqb, length, get_or}
use Rattle.papers.specs.Program.{Query}
use Rattle.papers.specs.Reading.{program_in, Papers}
use Rattle.model.specs.Model.{rounds, explains}
use Rattle.verdicts.specs.declared.AcceptedPapers.{AcceptedPapers}
use Rattle.verdicts.specs.VerdictLanes.{Stands, DecodedPapers}
use Rattle.trying.specs.declared.Report.{Report as CallReport}
use Rattle.trying.specs.declared.Search.{Search}
use Rattle.verdicts.specs.declared.Verdicts.{Verdicts}
use Rattle.held.specs.declared.Masks.{Masks}
use Rattle.held.specs.declared.SearchRecord.{SearchRecord}
use Rattle.held.specs.HeldProblem.{held_problem}
use Rattle.agreeing.specs.DisagreeingRuns.{DisagreeingRun}
use Rattle.stepping.specs.declared.Progress.{Progress}
use Rattle.steps.specs.Explanations.{Problem}
use Rattle.steps.specs.declared.Record.{Record}
use Rattle.steps.specs.Continuing.{Report, state_by, continue}
use Rattle.steps.specs.Spoilt.{spoilt_by}
use Rattle.stepping.specs.Stepping.{Kept, InLanes}

-- What a file and a sheet come to: "scenario s below 3^k", which of these are explanations, and "j is its round count".
abbrev pub problem_of : Papers → Problem
problem_of q = record {
  abducibles = length q.program.abducibles;
  explains = explains q.program q.query;
  rounds = rounds q.program;
}

-- "Reports the new record (position p plus tried), tried, rounds .. and the state." The record carries the masks as they were.
abbrev pub told_report : Masks → Report → CallReport
told_report m x = record { new = record { at = x.new; held = m }; tried = x.tried; rounds = x.rounds; state = x.state }

-- ---- for the functions

-- The problem of an accepted file and a query.
abbrev pub problem_in : List ℕ → Query → Problem
problem_in file query = problem_of (record { program = program_in file; query = query })

-- That of a search over decoded papers, with its held faults.
abbrev pub problem_held : Search → Problem
problem_held s = held_problem (problem_in s.papers.decoded.file.now s.papers.query.now) s.held

-- A call that has tried nothing yet.
abbrev pub untried : Record → Progress
untried from = record { position = from.position; found = from.found; tried = 0; rounds = 0 }

-- What is told of a call that has come so far.
abbrev pub report_by : ℕ → ℕ → Masks → Progress → CallReport
report_by total w m s = record {
  new = record { at = record { position = s.position; found = s.found }; held = m };
  tried = s.tried;
  rounds = s.rounds;
  state = state_by total w s.position s.tried;
}

-- So many scenarios on, none of which agrees: "counts as tried with zero rounds".
abbrev pub passed_over : ℕ → Progress → Progress
passed_over count s = record { position = s.position + count; found = s.found; tried = s.tried + count; rounds = s.rounds }

-- How many scenarios can be tried at once.
abbrev pub span_of : ℕ → ℕ
span_of run = cond (eqb run 0) 64 run

-- So many scenarios come next and are there: of a run of which none agrees, or, where that is empty, of those that are judged together.
pub record Next (k : ℕ) (m : Masks) (total run count : ℕ) (before : Progress) : Type 0 where
  pub passing : DisagreeingRun k m before.position run
  pub few : count ≤ span_of run
  pub there : before.position + count ≤ total

-- What 64 scenarios of a problem come to, each of at most 1,026 rounds.
pub record LanesJudged (P : Problem) (k base : ℕ) (v : Verdicts) : Type 0 where
  pub lanes : InLanes P k base v.explained v.rounds
  pub cost : (l : ℕ) → l < 64 → get_or v.rounds l 0 ≤ 1026

-- Papers that can be judged, a search within its bounds, and room to count `count` scenarios more.
pub record Ready (s : Search) (count : ℕ) (before : Progress) (list : List ℕ) : Type 0 where
  pub prepared : DecodedPapers s.papers
  pub scenarios : s.total ≡ 3 ^ length (program_in s.papers.decoded.file.now).abducibles
  pub kept : Kept s.total before list
  pub room : before.tried + count < 4294967296

-- Papers that can be judged, and a record and a list that pass test 14.
pub record Passed (papers : AcceptedPapers) (total : ℕ) (from : SearchRecord) (list : List ℕ) : Type 0 where
  pub prepared : Stands papers
  pub scenarios : total ≡ 3 ^ length (program_in papers.file.now.bytes.now).abducibles
  pub unspoilt : spoilt_by total from.at list ≡ false

-- What continuing with the held faults leaves: the report and the list, by its definition.
abbrev pub Continues : Problem → ℕ → SearchRecord → List ℕ → CallReport → List ℕ → Type 0
Continues P allowance from list r left =
    (r ≡ told_report from.held (continue (held_problem P from.held) allowance from.at list))
    × (left ≡ (continue (held_problem P from.held) allowance from.at list).list)
