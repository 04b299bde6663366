-- What continuing answers and leaves: a law for each of its answers.
-- Assumes nothing.
use mathlib.Core.Path.{◌≡◌, sym, ap, ap₂, ◌∙◌}
use mathlib.Core.Bool.{Bool, true, false}
use mathlib.Core.List.{List}
use Prim.Native.Nat.{ℕ, ◌^◌, ◌<◌, ◌≤◌}
use borrow.Author.Tests.{lt-ltb, le-ltb}
use lib.ListN.{length}
use Rattle.std.specs.Prelude.{Ok, Err}
use Rattle.papers.specs.declared.Contents.{Contents}
use Rattle.papers.specs.declared.Refusal as declared
use Rattle.papers.specs.Outcome.{Outcome, accepted, refused}
use Rattle.papers.specs.Reading.{Papers}
use Rattle.papers.specs.Told.{tells, refusal_of}
use Rattle.papers.proofs.BothAccepted.{BothTold}
use Rattle.papers.proofs.FileFacts.{abducibles_are}
use Rattle.dual.specs.Bytes.{dual_of, filled}
use Rattle.dual_writer.proofs.BothPapers.{papers_in, scenarios_are}
use Rattle.trying.specs.declared.Report.{Report}
use Rattle.search.specs.declared.ContinueError.TheVariants.{ShortDual, SpoiltSearch, Refused}
use Rattle.held.specs.declared.SearchRecord.{SearchRecord}
use Rattle.held.specs.HeldCalls.{spoilt_search_by, spoilt_search}
use Rattle.trying.specs.Trying.{problem_of, Continues}
use Rattle.search.specs.Searching.{call_of, continued_told, continue_told, Answers}
use Rattle.held.proofs.HeldLaws.{held_refused, held_spoilt, held_made}

-- ---- the papers

module _ {file sheet : List ℕ} {contents : Contents} {literals : ℕ} (both : BothTold file sheet contents literals) where
  -- Test 14, by the number of scenarios.
  pub spoilt_is : {total : ℕ} → total ≡ 3 ^ contents.abducibles → (from : SearchRecord) (list : List ℕ) {flag : Bool}
      → flag ≡ spoilt_search_by contents.abducibles total from list → spoilt_search (problem_of (papers_in file sheet literals)) from list ≡ flag
  spoilt_is {total} counted from list e =
      let k = abducibles_are file contents both.answer in
      sym (e ∙ ap₂ (λ (k n : ℕ). spoilt_search_by k n from list) (sym k) (scenarios_are both counted))

-- ---- the answers

-- 1 to 10.
pub answers_refused : {read : Outcome Papers} (r : declared.Refusal) → read ≡ refused (refusal_of r)
    → (w : ℕ) (dual : List ℕ) (from : SearchRecord) (list : List ℕ) → Answers read w dual from list (Err (Refused r)) dual list
unfolding continued_told continue_told
answers_refused r e w dual from list = (rw e, (rw e, rw e))

module _ (q : Papers) {read : Outcome Papers} (is : read ≡ accepted q) (w : ℕ) (dual : List ℕ) (from : SearchRecord) (list : List ℕ)
    {after : List ℕ} where
  -- 11.
  pub answers_short : length dual < length (dual_of q.program) → after ≡ dual → Answers read w dual from list (Err ShortDual) after list
  unfolding continued_told continue_told
  answers_short h e =
      let x = lt-ltb (length dual) (length (dual_of q.program)) h in
      let y = held_refused (problem_of q) (call_of q w (length dual)) from list x in
      (rw (is, y, x), (rw (is, y) e, rw (is, y)))

  module _ (fits : length (dual_of q.program) ≤ length dual) where
    -- 14.
    pub answers_spoilt : spoilt_search (problem_of q) from list ≡ true → after ≡ dual → Answers read w dual from list (Err SpoiltSearch) after list
    unfolding continued_told continue_told
    answers_spoilt s e =
        let x = le-ltb (length dual) (length (dual_of q.program)) fits in
        let y = held_spoilt (problem_of q) (call_of q w (length dual)) from list x s in
        (rw (is, y, x), (rw (is, y) e, rw (is, y)))

    -- A report.
    pub answers_report : spoilt_search (problem_of q) from list ≡ false → after ≡ filled (dual_of q.program) dual → {told : Report} {left : List ℕ}
        → Continues (problem_of q) w from list told left → Answers read w dual from list (Ok told) after left
    unfolding continued_told continue_told
    answers_report s e t =
        let x = le-ltb (length dual) (length (dual_of q.program)) fits in
        let y = held_made (problem_of q) (call_of q w (length dual)) from list x s in
        (rw (is, y) (ap tells t.0), (rw (is, y) e, rw (is, y) t.1))
