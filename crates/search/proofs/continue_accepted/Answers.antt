-- `search::continue_accepted` meets its contract: a law of answers for each return.
use mathlib.Core.Path.{◌≡◌, sym, ap, subst, ◌∙◌}
use mathlib.Core.Bool.{not, false}
use Prim.Native.Nat.{◌≤◌}
use native.Mathlib.Omega.{arith}
use lib.ListN.{length}
use Rattle.std.proofs.lemmas.Result.{err_from_is_err_and}
use Rattle.papers.specs.Outcome.{accepted}
use Rattle.papers.specs.Reading.{Papers, read_file, read_papers, program_in}
use Rattle.papers.proofs.FileFacts.{told, program_valid}
use Rattle.papers.proofs.BothAccepted.{BothTold, both_told}
use Rattle.dual.specs.Bytes.{dual_of, filled}
use Rattle.dual_writer.proofs.BothPapers.{papers_in, both_read, both_asked, few_abducibles_lem, few_literals, scenarios_are}
use Rattle.dual_writer.proofs.BothPapers.{dual_fits, dual_refused, dual_error, dual_stays, dual_kept, dual_filled}
use Rattle.rows.specs.DualBytes.{DualStarts}
use Rattle.rows.proofs.EntryBytes.{filled_starts}
use Rattle.held.specs.HeldCalls.{spoilt_search}
use Rattle.held.proofs.SearchTests.{unspoilt_record}
use Rattle.trying.specs.Trying.{problem_of}
use Rattle.search.specs.Searching.{dual_error as error_by}
use Rattle.search.proofs.ContinueLaws.{spoilt_is, answers_short, answers_spoilt, answers_report}
use Rattle.search.proofs.continue_accepted.Goals as goal
use Rattle.search.proofs.continue_accepted.Goals.{Start, After-write_accepted, In_ok-write_accepted}

both : (c : Start) → BothTold c.args.file.now c.args.sheet.now c.args.contents c.args.literals
both c = both_told c.args.file.now c.args.sheet.now _ _ c.requires

few : (c : Start) → c.args.literals ≤ 16
few c = few_literals (both c) c.requires

pub scenario_count-total-requires : goal.scenario_count-total-requires
scenario_count-total-requires c = few_abducibles_lem (both (goal.at.scenario_count-total-requires c).Start)

pub is_spoilt_search-spoilt-requires : goal.is_spoilt_search-spoilt-requires
is_spoilt_search-spoilt-requires c = few_abducibles_lem (both (goal.at.is_spoilt_search-spoilt-requires c).Start)

pub new-accepted-requires : goal.new-accepted-requires
new-accepted-requires c = (both (goal.at.new-accepted-requires c).Start).answer

-- ---- once the dual is written or not

module _ (c : After-write_accepted) where
  abbrev here : BothTold c.args.file.now c.args.sheet.now c.args.contents c.args.literals
  here = both (goal.at.After-write_accepted c).Start

  abbrev papers : Papers
  papers = papers_in c.args.file.now c.args.sheet.now c.args.literals

  read : read_papers c.args.file.now c.args.sheet.now ≡ accepted papers
  read = both_read here (λ i. (c.type_inv.sheet i).fits)

  program : read_file c.new-accepted.result.bytes.now ≡ accepted papers.program
  program = rw c.new-accepted.ensures.0 (told c.args.file.now _ here.answer).is

  spoilt_told : spoilt_search (problem_of papers) c.args.from c.args.list.now ≡ c.is_spoilt_search-spoilt.result
  spoilt_told = spoilt_is here c.scenario_count-total.ensures c.args.from c.args.list.now c.is_spoilt_search-spoilt.ensures

-- It is.
module _ (c : In_ok-write_accepted) where
  abbrev after : After-write_accepted
  after = (goal.at.In_ok-write_accepted c).After-write_accepted

  fits : length (dual_of (program_in c.args.file.now)) ≤ length c.args.dual.now
  fits = dual_fits (program after) c.args.dual.now c.write_accepted.ensures.0 c.in_ok-write_accepted.was

  written : c.is_spoilt_search-spoilt.result ≡ false → c.write_accepted.new.dual ≡ filled (dual_of (program_in c.args.file.now)) c.args.dual.now
  written e =
      dual_filled (program after) (not c.is_spoilt_search-spoilt.result) c.args.dual.now c.write_accepted.ensures.1 (ap not e) fits

pub returns-in_err-write_accepted : goal.returns-in_err-write_accepted
returns-in_err-write_accepted c =
    let a = c.args in
    let place = (goal.at.returns-in_err-write_accepted c).After-write_accepted in
    let ensured = c.write_accepted.ensures in
    let p = err_from_is_err_and c.from_residual.result c.from_residual.ensures.1 in
    let short = dual_refused (program place) a.dual.now ensured.0 c.in_err-write_accepted.was in
    let error = p.2 ∙ ap error_by (dual_error (program place) a.dual.now ensured.0 c.in_err-write_accepted.was) in
    let stays = dual_stays (program place) (not c.is_spoilt_search-spoilt.result) a.dual.now ensured.1 short in
    rw (p.1, error) (answers_short (papers place) (read place) a.allowance a.dual.now a.from a.list.now short stays)

pub returns-then-spoilt : goal.returns-then-spoilt
returns-then-spoilt c =
    let a = c.args in
    let place = (goal.at.returns-then-spoilt c).After-write_accepted in
    let spoilt = spoilt_told place ∙ c.if-spoilt.true in
    let kept = dual_kept (program place) (not c.is_spoilt_search-spoilt.result) a.dual.now c.write_accepted.ensures.1 (ap not c.if-spoilt.true) in
    answers_spoilt (papers place) (read place) a.allowance a.dual.now a.from a.list.now (fits (goal.at.returns-then-spoilt c).In_ok-write_accepted)
    spoilt kept

pub overflow_mul-end : goal.overflow_mul-end
overflow_mul-end c = let f = few (goal.at.overflow_mul-end c).Start in omega arith

pub overflow_add-end : goal.overflow_add-end
overflow_add-end c = let f = few (goal.at.overflow_add-end c).Start in omega arith

pub slice_bounds-papers-end : goal.slice_bounds-papers-end
slice_bounds-papers-end c = let k = (both (goal.at.slice_bounds-papers-end c).Start).within in omega arith

pub search_accepted-requires : goal.search_accepted-requires
search_accepted-requires c =
    let a = c.args in
    let p = program_in a.file.now in
    let here = both (goal.at.search_accepted-requires c).Start in
    let filled = written (goal.at.search_accepted-requires c).In_ok-write_accepted c.if-spoilt.false in
    let same = c.new-accepted.ensures.0 in
    record {
      prepared = record {
        starts = rw same (subst (DualStarts p) (sym filled) (filled_starts p (program_valid a.file.now _ here.answer) a.dual.now));
        asked = rw same (both_asked here (λ i. (c.type_inv.sheet i).fits));
      };
      scenarios = rw same (scenarios_are here c.scenario_count-total.ensures);
      unspoilt = unspoilt_record _ _ _ _ (sym c.is_spoilt_search-spoilt.ensures ∙ c.if-spoilt.false);
    }

pub returns : goal.returns
returns c =
    let a = c.args in
    let place = (goal.at.returns c).After-write_accepted in
    let done = (goal.at.returns c).In_ok-write_accepted in
    let unspoilt = spoilt_told place ∙ c.if-spoilt.false in
    answers_report (papers place) (read place) a.allowance a.dual.now a.from a.list.now (fits done) unspoilt (written done c.if-spoilt.false)
    (rw c.new-accepted.ensures.0 at c.search_accepted.ensures)
