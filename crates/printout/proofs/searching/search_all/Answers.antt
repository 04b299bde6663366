-- `printout::searching::search_all` meets its contract.
use mathlib.Core.Path.{◌≡◌, refl, sym, subst, ◌∙◌}
use mathlib.Core.Bool.{true, true≢false}
use Prim.Native.Nat.{ℕ, ◌≤◌}
use native.Mathlib.Omega.{arith}
use lib.ListN.{length}
use Rattle.std.specs.Prelude.{Ok}
use Rattle.papers.proofs.BothAccepted.{papers_file}
use Rattle.steps.specs.Explanations.{Problem, stop}
use Rattle.held.specs.Masks.{masks}
use Rattle.held.specs.HeldCalls.{fresh_search}
use Rattle.held.proofs.HeldLaws.{none_passed}
use Rattle.fresh.proofs.FreshLaws.{fresh_passed}
use Rattle.fresh.proofs.BegunTold.{begun_fixed}
use Rattle.printout.specs.declared.searching.Progress.{Progress}
use Rattle.printout.specs.DeskSearch.{problem_on, is_going, GoneOn}
use Rattle.printout.proofs.TurnLaws.{going_is, Turned, turned, begins}
use Rattle.printout.proofs.searching.search_all.Goals as goal
use Rattle.printout.proofs.searching.search_all.Goals.{After-fresh, After-go_on-progress}

-- Neither mask has a bit, so nothing refuses them.
begun : (c : After-fresh) → c.fresh.result ≡ Ok (fresh_search (masks 0 0))
begun c =
    let q = c.requires.0.papers in
    let read = papers_file c.args.file.now c.args.sheet.now c.requires.0.is in
    begun_fixed (c.fresh.ensures ∙ sym (fresh_passed (masks 0 0) read (none_passed (length q.program.abducibles))))

pub unwrap-requires : goal.unwrap-requires
unwrap-requires c = rw (begun (goal.at.unwrap-requires c).After-fresh)

-- ---- once a turn's call is made

module _ (c : After-go_on-progress) where
  abbrev problem : Problem
  problem = problem_on c.args.file.now c.args.sheet.now

  abbrev progress : Progress
  progress = c.go_on-progress.result

  -- One turn.
  turn : Turned problem (length c.args.list.now) c.loop-progress.progress progress (is_going progress.state)
  turn =
      let L = length c.args.list.now in
      let was = c.loop-progress.progress in
      let e = c.loop-progress.invariant.1.1.1 in
      let within = subst (λ (n : ℕ). was.reached.at.position ≤ stop problem n) e c.loop-progress.invariant.0.within in
      let gone = subst (λ (n : ℕ). GoneOn problem n was progress) e c.go_on-progress.ensures.1 in
      turned problem L was progress within gone

pub loop-progress-init : goal.loop-progress-init
unfolding is_going
loop-progress-init c =
    let a = c.args in
    let e : c.unwrap.result ≡ fresh_search (masks 0 0) = let x = sym c.unwrap.ensures ∙ begun (goal.at.loop-progress-init c).After-fresh in cc in (
      begins (problem_on a.file.now a.sheet.now) a.list.now _ e refl refl,
      ((λ h. absurd (true≢false h)), (refl, refl)),
    )

pub go_on-progress-requires : goal.go_on-progress-requires
go_on-progress-requires c =
    (c.requires.0, (let e = c.loop-progress.invariant.1.1.0 in let h = c.requires.1 in omega arith, c.loop-progress.invariant.0))

pub loop-progress-smaller : goal.loop-progress-smaller
loop-progress-smaller c =
    let was = c.loop-progress.progress in
    let went : is_going was.state ≡ true = sym (going_is was.state) ∙ sym c.loop-progress-test.ensures in
    rw went (turn (goal.at.loop-progress-smaller c).After-go_on-progress).nearer

pub loop-progress-preserved : goal.loop-progress-preserved
loop-progress-preserved c =
    let inv = c.loop-progress.invariant.1.1 in
    let call = c.go_on-progress in
    (call.ensures.0, ((turn (goal.at.loop-progress-preserved c).After-go_on-progress).finished, (call.auto.dual ∙ inv.0, call.auto.list ∙ inv.1)))

pub returns : goal.returns
returns c = (c.loop-progress.invariant.0, c.loop-progress.invariant.1.0 (sym (going_is c.loop-progress.progress.state) ∙ sym c.loop-progress-test.ensures))
