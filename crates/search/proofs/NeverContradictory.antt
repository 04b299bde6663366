-- Card 3, of every list of calls: what they have found rests on no contradiction.
-- Assumes nothing.
use mathlib.Core.Path.{◌≡◌, sym, ap, subst, ◌∙◌}
use mathlib.Core.Bool.{true}
use mathlib.Core.List.{List}
use Prim.Native.Nat.{ℕ, ◌<◌}
use native.Mathlib.Omega.{arith}
use lib.Dec.{T}
use lib.ListN.{length, get_or}
use lib.Seq.{get_or-take}
use Rattle.papers.specs.Outcome.{Outcome, accepted}
use Rattle.papers.specs.Reading.{Papers, read_file, read_papers}
use Rattle.papers.specs.Told.{tells}
use Rattle.papers.proofs.TestLaws.{right, is_true}
use Rattle.model.specs.Model.{model_bytes, explains}
use Rattle.model.proofs.ByteLaws.{explained_consistent}
use Rattle.held.specs.declared.Masks.{Masks}
use Rattle.held.specs.declared.SearchRecord.{SearchRecord}
use Rattle.held.specs.HeldProblem.{held_explains, held_problem}
use Rattle.fresh.specs.Beginning.{fresh_told}
use Rattle.steps.specs.Explanations.{Problem, minimal, minimals}
use Rattle.steps.proofs.Minimality.{minimal_explains}
use Rattle.steps.proofs.Minimals.{nth}
use Rattle.trying.specs.Trying.{problem_of}
use Rattle.search.specs.SearchCalls.{Lent, Searched, search_calls, SearchDemand, SearchClaim}
use Rattle.search.proofs.SearchPause.{search_pause}

module _ (q : Papers) (m : Masks) (l : List ℕ) (cs : List Lent) (s : Searched) (d : SearchDemand q m l cs s) where
  abbrev P : Problem
  P = held_problem (problem_of q) m

  -- A found entry is one of the minimal explanations of that search,
  found_minimal : (i : ℕ) → i < s.last.at.found → T (minimal P (get_or s.list i 0))
  found_minimal i h =
      let is = sym (get_or-take s.last.at.found s.list i 0 h) ∙ ap (λ (e : List ℕ). get_or e i 0) d.demand.entries in
      let within : i < length (minimals P s.last.at.position) = omega (arith, d.demand.found) in
      rw is (nth P s.last.at.position i 0 within).is_minimal

  -- and so an explanation of its papers.
  found_explains : (i : ℕ) → i < s.last.at.found → explains q.program q.query (get_or s.list i 0) ≡ true
  unfolding held_explains
  found_explains i h =
      let x = get_or s.list i 0 in
      is_true (explains q.program q.query x) (right _ _ (minimal_explains P x (found_minimal i h)))

-- From what `fresh` answers, after any calls: no byte of the model of a found scenario is 3.
pub never_contradictory : (file sheet l : List ℕ) (m : Masks) (cs : List Lent) {r : SearchRecord} {q : Papers} → fresh_told (read_file file) m ≡ tells r
    → read_papers file sheet ≡ accepted q → (i : ℕ) → i < (search_calls file sheet cs r l).last.at.found
    → (o : ℕ) → get_or (model_bytes q.program (get_or (search_calls file sheet cs r l).list i 0)) o 0 ≡ 3 → ⊥
unfolding SearchClaim
never_contradictory file sheet l m cs {r} {q} begun read i h o =
    let s = search_calls file sheet cs r l in
    let d = subst (λ (x : Outcome Papers). SearchClaim x m l cs s) read (search_pause file sheet l m cs begun) in
    explained_consistent q.program (get_or s.list i 0) q.query (found_explains q m l cs s d i h) o
