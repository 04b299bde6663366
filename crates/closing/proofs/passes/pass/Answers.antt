-- `closing::passes::pass` meets its contract. The loop's invariant: the rows visited have been put to use, one after the other.
use mathlib.Core.Path.{◌≡◌, sym, subst}
use native.Mathlib.Omega.{arith}
use lib.ListN.{length}
use Rattle.closing.specs.Passes.{none_ran, one_ran}
use Rattle.closing.proofs.ClosingLaws.{or_turned}
use Rattle.closing.proofs.PassLaws.{passing_none, passing_then}
use Rattle.closing.proofs.passes.pass.Goals as goal

pub loop-visit-init : goal.loop-visit-init
loop-visit-init g c = (none_ran, passing_none)

pub put-changed-requires : goal.put-changed-requires
put-changed-requires g c =
    subst (λ place. g.R.Rows.Stands c.args.rows.now place) (sym c.place_of.ensures) (c.requires c.loop-visit.visit-index (omega arith))

pub loop-visit-preserved : goal.loop-visit-preserved
loop-visit-preserved g c =
    let l = c.loop-visit in
    let did = c.put-changed.ensures in (
      rw (or_turned l.changed c.put-changed.result) (one_ran l.invariant.0 (omega arith) (rw c.place_of.ensures at did.does)),
      passing_then l.changed c.put-changed.result l.invariant.1 did.goes_on,
    )

pub returns-clause-does : goal.returns-clause-does
returns-clause-does g c =
    let l = c.loop-visit in
    let e : l.visit-index ≡ length c.args.visits.now = omega arith in
    rw e at l.invariant.0
