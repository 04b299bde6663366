-- The pause theorem of `continue_search`: demand 3 of every list of its calls.
-- Assumes nothing.
use mathlib.Core.Path.{◌≡◌, refl, sym, ap, ap₂, subst, ◌∙◌}
use mathlib.Core.Bool.{cond}
use mathlib.Core.List.{List, [], ◌∷◌, map}
use Prim.Native.Nat.{ℕ, ◌*◌, ◌≤◌}
use lib.ListN.{length}
use Rattle.std.specs.Prelude.{Ok}
use Rattle.papers.specs.declared.Bare.TheVariants as bare
use Rattle.papers.specs.Outcome.{Refusal, Outcome, accepted, refused}
use Rattle.papers.specs.Reading.{Papers, read_file, read_papers}
use Rattle.papers.specs.Told.{tells, bare_number, bare_told, refusal_told, number_told}
use Rattle.papers.proofs.BothAccepted.{papers_file}
use Rattle.dual.specs.Bytes.{dual_of, filled}
use Rattle.model.proofs.Rounds.{rounds_le}
use Rattle.literals.specs.Numbering.{judged}
use Rattle.held.specs.declared.Masks.{Masks}
use Rattle.held.specs.declared.SearchRecord.{SearchRecord}
use Rattle.held.specs.Masks.{masks_tested}
use Rattle.held.specs.HeldProblem.{held_problem}
use Rattle.held.specs.HeldCalls.{fresh_search, held_answer}
use Rattle.held.proofs.HeldLaws.{held_most, held_answer_lem}
use Rattle.fresh.specs.Beginning.{fresh_told}
use Rattle.fresh.proofs.FreshLaws.{fresh_begins}
use Rattle.steps.specs.Explanations.{Problem}
use Rattle.steps.specs.declared.Record.{Record}
use Rattle.steps.specs.Continuing.{fresh}
use Rattle.steps.specs.Calls.{Call, Answer, refusal, report, answer, record_after, list_after, first, calls}
use Rattle.steps.specs.Demand.{is_refused, is_refusal, Demand}
use Rattle.trying.specs.Trying.{problem_of}
use Rattle.search.specs.Searching.{told_by, continue_told, buffer_by, record_continued}
use Rattle.search.specs.SearchCalls.{Lent, made, first_made, search_calls, refused_made, call_for, answered, answer_for, called_by}
use Rattle.search.specs.SearchCalls.{number_of, dual_left, number_for, dual_for, SearchDemand, SearchClaim}
use Rattle.steps.proofs.Pause.{pause}

-- ---- one call

-- What is told is the answer again.
told_back : (c : Call) (m : Masks) (list : List ℕ) (a : Answer) → answered (told_by c m a) (list_after list a) ≡ a
unfolding bare_told
told_back c m list refusal = refl
told_back c m list (report x) = refl

-- A record with the masks.
abbrev holding : Masks → Record → SearchRecord
holding m at = record { at = at; held = m }

-- The record that goes on is the theory's, with the masks as they were.
record_back : (c : Call) (m : Masks) (from : Record) (a : Answer) → record_continued (holding m from) (told_by c m a) ≡ holding m (record_after from a)
unfolding bare_told
record_back c m from refusal = refl
record_back c m from (report x) = refl

-- Where a call is refused for its own reason alone, its number is 11 or 0, and its buffer is unchanged or filled.
number_back : (c : Call) (m : Masks) (a : Answer) → is_refusal a ≡ c.refused
    → number_told (told_by c m a) ≡ cond c.refused (bare_number bare.ShortDual) 0
unfolding is_refusal bare_told number_told
number_back c m refusal e = rw (sym e)
number_back c m (report x) e = rw (sym e)

dual_back : (c : Call) (a : Answer) (bytes buffer : List ℕ) → is_refusal a ≡ c.refused
    → buffer_by a bytes buffer ≡ cond c.refused buffer (filled bytes buffer)
unfolding is_refusal
dual_back c refusal bytes buffer e = rw (sym e)
dual_back c (report x) bytes buffer e = rw (sym e)

-- ---- many calls

module _ (file sheet : List ℕ) (q : Papers) (read : read_papers file sheet ≡ accepted q) (m : Masks)
    (passed : masks_tested (length q.program.abducibles) m ≡ Ok tt) where
  -- The problem of the search.
  abbrev searched : Problem
  searched = held_problem (problem_of q) m

  -- A call of `continue_search` is one of the theory.
  answer_is : (c : Call) (from : Record) (list : List ℕ) → held_answer (problem_of q) c (holding m from) list ≡ answer searched c from list
  answer_is c from list = held_answer_lem (problem_of q) c (holding m from) list passed

  -- And so is a list of calls, with the masks as they were.
  pub calls_are : (cs : List Lent) (from : Record) (list : List ℕ)
      → (called_by (search_calls file sheet cs (holding m from) list) ≡ calls searched (map (call_for q) cs) from list)
      × ((search_calls file sheet cs (holding m from) list).last.held ≡ m)
  unfolding search_calls calls answer_for call_for continue_told
  calls_are [] from list = (refl, refl)
  calls_are (c ∷ cs) from list =
      let k = call_for q c in
      let a = answer searched k from list in
      let more = calls_are cs (record_after from a) (list_after list a) in
      rw (read, answer_is k from list, record_back k m from a)
      (ap₂ first (told_back k m list a) more.0, more.1)

  -- Where each is refused for its own reason alone.
  calls_tell : (cs : List Lent) (from : Record) (list : List ℕ)
      → map is_refusal (map answer_for (search_calls file sheet cs (holding m from) list).each) ≡ map is_refused (map (call_for q) cs)
      → (map number_of (search_calls file sheet cs (holding m from) list).each ≡ map (number_for q) cs)
      × (map dual_left (search_calls file sheet cs (holding m from) list).each ≡ map (dual_for q) cs)
  unfolding search_calls answer_for call_for is_refused number_of dual_left number_for dual_for continue_told
  calls_tell [] from list e = (refl, refl)
  calls_tell (c ∷ cs) from list e =
      let k = call_for q c in
      let a = answer searched k from list in
      let made_first = made file sheet c (holding m from) list in
      let next = record_continued (holding m from) made_first.told in
      let head : is_refusal (answered made_first.told made_first.list) ≡ k.refused = cc in
      let tail : map is_refusal (map answer_for (search_calls file sheet cs next made_first.list).each) ≡ map is_refused (map (call_for q) cs) = cc in
      let own : is_refusal a ≡ k.refused = sym (ap is_refusal (told_back k m list a)) ∙ rw (read, answer_is k from list) at head in
      let rest = rw (read, answer_is k from list, record_back k m from a) at tail in
      let more = calls_tell cs (record_after from a) (list_after list a) rest in
      rw (read, answer_is k from list, record_back k m from a) (
        ap₂ ◌∷◌ (number_back k m a own) more.0,
        ap₂ ◌∷◌ (dual_back k a (dual_of q.program) c.dual own) more.1,
      )

  pub pause_accepted : (l : List ℕ) (cs : List Lent) → SearchDemand q m l cs (search_calls file sheet cs (fresh_search m) l)
  pause_accepted l cs =
      let are = calls_are cs fresh l in
      let d = subst (Demand searched l (map (call_for q) cs)) (sym are.0) (pause searched l (map (call_for q) cs)) in
      let t = calls_tell cs fresh l d.refused in
      let most = 2 * judged q.program.atoms in
      let few : (s : ℕ) → searched.rounds s ≤ most = λ s. held_most (problem_of q) m s most (rounds_le q.program s) in
      record {
        demand = d;
        held = are.1;
        most = few;
        bound = d.bound most (λ t h. few t);
        numbers = t.0;
        duals = t.1;
      }

-- Over papers that are refused, each call answers so and leaves all as it was.
pub pause_refused : (file sheet : List ℕ) (r : Refusal) → read_papers file sheet ≡ refused r → (cs : List Lent) (from : SearchRecord) (list : List ℕ)
    → search_calls file sheet cs from list ≡ record { last = from; list = list; each = map (refused_made r list) cs }
unfolding search_calls refused_made continue_told refusal_told
pause_refused file sheet r read [] from list = refl
pause_refused file sheet r read (c ∷ cs) from list = rw read (ap (first_made (refused_made r list c)) (pause_refused file sheet r read cs from list))

-- Demand 3, of every file and sheet, pair of masks, lent list and list of calls from what `fresh` answers for that file and those masks on.
pub search_pause : (file sheet l : List ℕ) (m : Masks) (cs : List Lent) {r : SearchRecord} → fresh_told (read_file file) m ≡ tells r
    → SearchClaim (read_papers file sheet) m l cs (search_calls file sheet cs r l)
unfolding SearchClaim
search_pause file sheet l m cs begun = rw (fresh_begins (read_file file) m begun).is (go (read_papers file sheet) refl)
  where
    go : (o : Outcome Papers) → read_papers file sheet ≡ o → SearchClaim o m l cs (search_calls file sheet cs (fresh_search m) l)
    go (accepted q) e = pause_accepted file sheet q e m ((fresh_begins (read_file file) m begun).passed q.program (papers_file file sheet e)) l cs
    go (refused x) e = pause_refused file sheet x e cs (fresh_search m) l
