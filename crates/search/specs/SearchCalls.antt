-- A list of calls of `continue_search` over one file and one sheet, and what demand 3 says of it.
use Rattle.std.specs.Prelude.{◌≡◌, cond, List, [], ◌∷◌, map, ℕ, ◌*◌, ◌≤◌, length}
use Rattle.literals.specs.Numbering.{judged}
use Rattle.papers.specs.declared.Bare.TheVariants as bare
use Rattle.papers.specs.Outcome.{Refusal, Outcome, accepted, refused}
use Rattle.papers.specs.Reading.{Papers, read_papers}
use Rattle.papers.specs.Told.{Told, tells, refused_by, refused_at, bare_number, number_told, refusal_told}
use Rattle.dual.specs.Bytes.{dual_of, filled}
use Rattle.trying.specs.declared.Report.{Report}
use Rattle.held.specs.declared.Masks.{Masks}
use Rattle.held.specs.declared.SearchRecord.{SearchRecord}
use Rattle.held.specs.HeldProblem.{held_problem}
use Rattle.held.specs.HeldCalls.{fresh_search}
use Rattle.steps.specs.Calls.{Call, Answer, refusal, report, Called, rounds_by}
use Rattle.steps.specs.Demand.{Demand}
use Rattle.trying.specs.Trying.{problem_of}
use Rattle.search.specs.Searching.{call_of, continue_told, dual_continued, list_continued, record_continued}

-- "Allowance and dual buffer are each call's own."
pub record Lent : Type 0 where
  pub allowance : ℕ
  pub dual : List ℕ

-- What a call tells, and the dual buffer and the list as it leaves them.
pub record Made : Type 0 where
  pub told : Told Report
  pub dual : List ℕ
  pub list : List ℕ

-- By the three equations that `continue_search` ensures.
abbrev pub made : List ℕ → List ℕ → Lent → SearchRecord → List ℕ → Made
made file sheet c from list = record {
  told = continue_told (read_papers file sheet) c.allowance (length c.dual) from list;
  dual = dual_continued (read_papers file sheet) c.allowance c.dual from list;
  list = list_continued (read_papers file sheet) c.allowance (length c.dual) from list;
}

-- What a list of calls leaves, and what each made.
pub record Searched : Type 0 where
  pub last : SearchRecord
  pub list : List ℕ
  pub each : List Made

abbrev pub first_made : Made → Searched → Searched
first_made m s = record { last = s.last; list = s.list; each = m ∷ s.each }

-- "File, sheet and the length of the lent list are the same throughout." Each call is given the record and the list as the call before
-- left them: a refused one "passes its record on unchanged".
unfoldable pub search_calls : List ℕ → List ℕ → List Lent → SearchRecord → List ℕ → Searched
search_calls file sheet [] from list = record { last = from; list = list; each = [] }
search_calls file sheet (c ∷ cs) from list =
    let m = made file sheet c from list in
    first_made m (search_calls file sheet cs (record_continued from m.told) m.list)

-- What a call makes of papers that are refused by r: "buffers and record are unchanged".
unfoldable pub refused_made : Refusal → List ℕ → Lent → Made
refused_made r list c = record { told = refusal_told r; dual = c.dual; list = list }

-- ---- demand 3

-- A call and what it made, as `Demand` speaks of them: of a dual buffer, whether it is too short; of what is told, the report with the
-- list.
unfoldable pub call_for : Papers → Lent → Call
call_for q c = call_of q c.allowance (length c.dual)

abbrev pub answered : Told Report → List ℕ → Answer
answered (tells x) list = report (record { new = x.new.at; list = list; tried = x.tried; rounds = x.rounds; state = x.state })
answered (refused_by number) list = refusal
answered (refused_at number paper place) list = refusal

unfoldable pub answer_for : Made → Answer
answer_for m = answered m.told m.list

abbrev pub called_by : Searched → Called
called_by s = record { last = s.last.at; list = s.list; answers = map answer_for s.each }

-- The number of a call's refusal, and its dual buffer afterwards.
unfoldable pub number_of : Made → ℕ
number_of m = number_told m.told

unfoldable pub dual_left : Made → List ℕ
dual_left m = m.dual

-- By its dual buffer alone: 11 and unchanged where that is too short; else 0, and it begins with the dual.
unfoldable pub number_for : Papers → Lent → ℕ
number_for q c = cond (call_for q c).refused (bare_number bare.ShortDual) 0

unfoldable pub dual_for : Papers → Lent → List ℕ
dual_for q c = cond (call_for q c).refused c.dual (filled (dual_of q.program) c.dual)

-- What demand 3 says of the calls `cs` of `continue_search` from a fresh search with the masks `m`, over papers that are accepted as `q`
-- and a lent list that held `l` at the start; `s` is what they leave. Explanations and rounds are those of that search.
pub record SearchDemand (q : Papers) (m : Masks) (l : List ℕ) (cs : List Lent) (s : Searched) : Type 0 where
  -- Record, list and sums: the lines of `Demand`.
  pub demand : Demand (held_problem (problem_of q) m) l (map (call_for q) cs) (called_by s)
  -- The record carries the masks as they were.
  pub held : s.last.held ≡ m
  -- "j is its round count, at most 2N": so the rounds reported are at most 2N for each scenario tried.
  pub most : (t : ℕ) → (held_problem (problem_of q) m).rounds t ≤ 2 * judged q.program.atoms
  pub bound : rounds_by (called_by s).answers ≤ 2 * judged q.program.atoms * s.last.at.position
  -- A call is refused exactly where its own dual buffer is too short, and by 11.
  pub numbers : map number_of s.each ≡ map (number_for q) cs
  pub duals : map dual_left s.each ≡ map (dual_for q) cs

-- Demand 3, whatever the papers are. Of refused ones each call answers their refusal, and all that is lent stays as it was.
unfoldable pub SearchClaim : Outcome Papers → Masks → List ℕ → List Lent → Searched → Type 0
SearchClaim (accepted q) m l cs s = SearchDemand q m l cs s
SearchClaim (refused r) m l cs s = s ≡ record { last = fresh_search m; list = l; each = map (refused_made r l) cs }
