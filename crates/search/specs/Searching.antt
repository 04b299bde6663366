-- Continuing: its refusals after those of the papers, what it tells in document 01's numbers, and what the lent buffer and the lent list
-- then hold.
use Rattle.std.specs.Prelude.{◌≡◌, cond, Result, Ok, Err, List, ℕ, ltb, length}
use Rattle.papers.specs.declared.Bare.TheVariants as bare
use Rattle.papers.specs.Outcome.{Outcome, accepted, refused}
use Rattle.papers.specs.Reading.{Papers}
use Rattle.papers.specs.Told.{Told, tells, refused_by, refused_at, refusal_of, bare_told, refusal_told}
use Rattle.dual.specs.Bytes.{dual_of, filled}
use Rattle.trying.specs.declared.Report.{Report as CallReport}
use Rattle.dual_writer.specs.declared.DualError.{DualError}
use Rattle.dual_writer.specs.declared.DualError.TheVariants as writing
use Rattle.search.specs.declared.ContinueError.{ContinueError}
use Rattle.search.specs.declared.ContinueError.TheVariants.{ShortDual, SpoiltSearch, Refused}
use Rattle.steps.specs.Calls.{Call, Answer, refusal, report, list_after}
use Rattle.held.specs.declared.Masks.{Masks}
use Rattle.held.specs.declared.SearchRecord.{SearchRecord}
use Rattle.held.specs.HeldCalls.{held_answer}
use Rattle.trying.specs.Trying.{problem_of, told_report}

-- A call with its allowance and the length of its dual buffer. 11: "lent dual buffer shorter than the dual".
abbrev pub call_of : Papers → ℕ → ℕ → Call
call_of q allowance room = record { allowance = allowance; refused = ltb room (length (dual_of q.program)) }

-- What the call comes to, by the definition of continuing with held faults.
abbrev pub answer_of : Papers → ℕ → ℕ → SearchRecord → List ℕ → Answer
answer_of q allowance room from list = held_answer (problem_of q) (call_of q allowance room) from list

-- What each answer tells.
unfoldable pub continued_told : Result CallReport ContinueError → Told CallReport
continued_told (Ok x) = tells x
continued_told (Err ShortDual) = bare_told bare.ShortDual
continued_told (Err SpoiltSearch) = bare_told bare.SpoiltSearch
continued_told (Err (Refused r)) = refusal_told (refusal_of r)

-- The error that one of writing the dual is.
abbrev pub dual_error : DualError → ContinueError
dual_error writing.Short = ShortDual
dual_error (writing.Refused r) = Refused r

-- "Then 11, 12, 13, 14", of which 11 and 14 are continuing's.
abbrev pub told_by : Call → Masks → Answer → Told CallReport
told_by c m refusal = bare_told (cond c.refused bare.ShortDual bare.SpoiltSearch)
told_by c m (report x) = tells (told_report m x)

-- What continuing has to tell. `room` is the length of the lent dual buffer.
unfoldable pub continue_told : Outcome Papers → ℕ → ℕ → SearchRecord → List ℕ → Told CallReport
continue_told (refused r) allowance room from list = refusal_told r
continue_told (accepted q) allowance room from list = told_by (call_of q allowance room) from.held (answer_of q allowance room from list)

-- "Judging and continuing leave the dual in the dual buffer"; on refusal "buffers and record are unchanged".
abbrev pub buffer_by : Answer → List ℕ → List ℕ → List ℕ
buffer_by refusal bytes buffer = buffer
buffer_by (report x) bytes buffer = filled bytes buffer

abbrev pub dual_continued : Outcome Papers → ℕ → List ℕ → SearchRecord → List ℕ → List ℕ
dual_continued (refused r) allowance dual from list = dual
dual_continued (accepted q) allowance dual from list = buffer_by (answer_of q allowance (length dual) from list) (dual_of q.program) dual

-- The lent list: continuing "adds to the list those that are minimal explanations".
abbrev pub list_continued : Outcome Papers → ℕ → ℕ → SearchRecord → List ℕ → List ℕ
list_continued (refused r) allowance room from list = list
list_continued (accepted q) allowance room from list = list_after list (answer_of q allowance room from list)

-- The answer, the lent buffer and the lent list together.
abbrev pub Answers : Outcome Papers → ℕ → List ℕ → SearchRecord → List ℕ → Result CallReport ContinueError → List ℕ → List ℕ → Type 0
Answers read allowance dual from list r after left =
    (continued_told r ≡ continue_told read allowance (length dual) from list)
    × ((after ≡ dual_continued read allowance dual from list) × (left ≡ list_continued read allowance (length dual) from list))

-- The record to go on from: the new one, and on refusal the same.
abbrev pub record_continued : SearchRecord → Told CallReport → SearchRecord
record_continued from (tells x) = x.new
record_continued from (refused_by number) = from
record_continued from (refused_at number paper place) = from
