-- One call of the desk program's, from where the calls before it stand. Assumes nothing.
use mathlib.Core.Path.{◌≡◌, refl, sym, ap, ap₂, subst, ◌∙◌}
use mathlib.Core.Bool.{false}
use mathlib.Core.List.{List, ◌++◌}
use Prim.Native.Nat.{ℕ, ◌+◌, ◌-◌, ◌^◌, ◌≤◌, ◌<◌, min}
use native.Mathlib.Omega.{arith}
use borrow.Author.Tests.{le-ltb}
use lib.ListN.{length, take, drop, take-append-drop}
use Rattle.std.specs.Prelude.{Result, Ok, IsOk}
use Rattle.papers.specs.Outcome.{Outcome, accepted}
use Rattle.papers.specs.Reading.{Papers, read_papers}
use Rattle.papers.specs.Told.{tells}
use Rattle.dual.specs.Bytes.{dual_of}
use Rattle.trying.specs.declared.Report.{Report as CallReport}
use Rattle.steps.specs.Explanations.{Problem, scenarios, minimals, stop, sum_below, rounds_from}
use Rattle.steps.specs.Continuing.{Report, report_of, continue, state_by}
use Rattle.steps.specs.Spoilt.{spoilt}
use Rattle.steps.specs.Calls.{report}
use Rattle.held.specs.HeldCalls.{held_answer}
use Rattle.held.proofs.HeldLaws.{none_answer}
use Rattle.trying.specs.Trying.{problem_of, told_report}
use Rattle.search.specs.Searching.{call_of, continued_told, continue_told, list_continued}
use Rattle.steps.proofs.Stopping.{stop_le}
use Rattle.steps.proofs.Sums.{sum_rounds, sum_bound}
use Rattle.steps.proofs.Canonical.{record_at, list_at, work_at, list_at_found, list_at_length, continue_at}
use Rattle.steps.proofs.Sound.{reached_unspoilt}
use Rattle.steps.proofs.Calling.{answer_made}
use Rattle.printout.specs.declared.searching.Progress.{Progress}
use Rattle.printout.specs.DeskSearch.{Accepted, problem_for, problem_on, Stands, GoneOn}
use Rattle.search.specs.declared.ContinueError.{ContinueError}
use Rattle.search.proofs.ContinuedTold.{reported_told}
use Rattle.printout.proofs.PaperLaws.{Small, problem_is, small, dual_few}

module _ (P : Problem) (list : List ℕ) (before : Progress) (stands : Stands P list before) where
  -- Record and list are those of a search that has come to its position.
  pub reached_is : before.reached.at ≡ record_at P before.reached.at.position
  unfolding record_at
  reached_is = λ i. record { position = before.reached.at.position; found = stands.found i }

  pub list_is : list_at P list before.reached.at.position ≡ list
  unfolding list_at
  list_is =
      ap (λ (l : List ℕ). l ++ drop (length (minimals P before.reached.at.position)) list) (sym stands.entries)
      ∙ ap (λ (n : ℕ). take before.reached.at.found list ++ drop n list) (sym stands.found)
      ∙ take-append-drop before.reached.at.found list

  pub unspoilt : spoilt P before.reached.at list ≡ false
  unspoilt = ap₂ (spoilt P) reached_is (sym list_is) ∙ reached_unspoilt P list before.reached.at.position stands.within

-- After a call that told so much.
abbrev pub next : Progress → CallReport → Progress
next before told = record {
  reached = told.new;
  tried = before.tried + told.tried;
  rounds = before.rounds + told.rounds;
  state = told.state;
}

-- What a call leaves: where the calls then stand, and that the sums fit 64 bits.
pub record Called (P : Problem) (list : List ℕ) (before : Progress) (told : CallReport) (after : List ℕ) : Type 0 where
  pub stands : Stands P after (next before told)
  pub gone : GoneOn P (length list) before (next before told)
  pub tried_fits : before.tried + told.tried < 2 ^ 64
  pub rounds_fit : before.rounds + told.rounds < 2 ^ 64

module _ (P : Problem) (small : Small P) (list : List ℕ) (before : Progress) (stands : Stands P list before) (m : ℕ)
    (tries : m ≡ min 4096 (stop P (length list) - before.reached.at.position)) where
  -- What the call reports, by the position that it comes to.
  unfoldable reported : Report
  reported = report_of P 4096 (work_at P list (before.reached.at.position + m) m (sum_below m (rounds_from P before.reached.at.position)))

  reported_is : continue P 4096 before.reached.at list ≡ reported
  unfolding reported
  reported_is =
      ap₂ (continue P 4096) (reached_is P list before stands) (sym (list_is P list before stands))
      ∙ continue_at P list 4096 before.reached.at.position m stands.within tries

  called_there : Called P list before (told_report before.reached.held reported) reported.list
  unfolding reported
  called_there =
      let at = before.reached.at.position + m in
      let size = list_at_length P list at (let w = stands.within in omega arith) in
      let sums = sum_rounds P before.reached.at.position m in
      let most = sum_bound at P.rounds 1026 (λ i h. small.rounds i) in
      let total = stop_le P (length list) in
      let few = small.few in
      let w = stands.within in
      let t = stands.tried in
      let r = stands.rounds in
      record {
        stands = record {
          within = rw size (omega arith);
          found = refl;
          entries = list_at_found P list at;
          tried = omega arith;
          rounds = omega arith;
          none = stands.none;
        };
        gone = record {
          position = omega arith;
          state = ap (state_by (scenarios P) 4096 at) (let e : m ≡ at - before.reached.at.position = omega arith in e);
        };
        tried_fits = omega arith;
        rounds_fit = omega arith;
      }

-- The call, by what `continue_search` answers.
module _ {read : Outcome Papers} {q : Papers} (is : read ≡ accepted q) (small : Small (problem_of q)) (room : ℕ)
    (enough : length (dual_of q.program) ≤ room) (list : List ℕ) (before : Progress) (stands : Stands (problem_for read) list before) where
  stands_there : Stands (problem_of q) list before
  stands_there = rw (problem_is is) at stands

  made : held_answer (problem_of q) (call_of q 4096 room) before.reached list ≡ report (continue (problem_of q) 4096 before.reached.at list)
  made =
      none_answer (problem_of q) (call_of q 4096 room) before.reached list stands.none
      ∙ answer_made (problem_of q) (call_of q 4096 room) before.reached.at list (le-ltb room (length (dual_of q.program)) enough)
      (unspoilt (problem_of q) list before stands_there)

  -- What the call has to tell.
  abbrev due : CallReport
  due = told_report before.reached.held (continue (problem_of q) 4096 before.reached.at list)

  pub tells_report : continue_told read 4096 room before.reached list ≡ tells due
  unfolding continue_told
  tells_report = rw (is, made)

  list_after_lem : list_continued read 4096 room before.reached list ≡ (continue (problem_of q) 4096 before.reached.at list).list
  list_after_lem = rw (is, made)

  pub called : {told : CallReport} {after : List ℕ} → continued_told (Ok told) ≡ continue_told read 4096 room before.reached list
      → after ≡ list_continued read 4096 room before.reached list → Called (problem_for read) list before told after
  unfolding continued_told
  called {told} {after} t l =
      let P = problem_of q in
      let m = min 4096 (stop P (length list) - before.reached.at.position) in
      let e = reported_is P small list before stands_there m refl in
      let tells : told ≡ due = let z = t ∙ tells_report in cc in
      let there = called_there P small list before stands_there m refl in
      let entries = (reported P small list before stands_there m refl).list in
      let x = subst (λ (r : CallReport). Called P list before r entries) (ap (told_report before.reached.held) (sym e) ∙ sym tells) there in
      let y = subst (λ (r : List ℕ). Called P list before told r) (ap (λ (r : Report). r.list) (sym e) ∙ sym (l ∙ list_after_lem)) x in
      subst (λ (R : Problem). Called R list before told after) (sym (problem_is is)) y

-- Of accepted papers, with a buffer that is long enough for any dual.
module _ (file sheet : List ℕ) (both : Accepted (read_papers file sheet)) (room : ℕ) (long : 52488 ≤ room) (list : List ℕ) (before : Progress)
    (stands : Stands (problem_on file sheet) list before) where
  enough : length (dual_of both.papers.program) ≤ room
  enough = let few = dual_few file sheet both.is in omega arith

  pub reports : (answer : Result CallReport ContinueError)
      → continued_told answer ≡ continue_told (read_papers file sheet) 4096 room before.reached list → IsOk answer
  reports answer told = rw (reported_told (told ∙ tells_report both.is (small file sheet both.is) room enough list before stands))

  pub made_call : (answer : Result CallReport ContinueError) {report : CallReport} {after : List ℕ}
      → continued_told answer ≡ continue_told (read_papers file sheet) 4096 room before.reached list → answer ≡ Ok report
      → after ≡ list_continued (read_papers file sheet) 4096 room before.reached list → Called (problem_on file sheet) list before report after
  made_call answer told is = called both.is (small file sheet both.is) room enough list before stands (ap continued_told (sym is) ∙ told)
