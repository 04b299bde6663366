-- `importing::declaring::rising` meets its contract. The loop's invariant: the flagged atoms up to here are listed.
use mathlib.Core.Path.{refl, ◌∙◌}
use native.Mathlib.Omega.{arith}
use Rattle.text.specs.LineNumbers.{padded}
use Rattle.importing.specs.Passes.{flagged_from}
use Rattle.importing.proofs.RisingLaws.{flagged_few, one_listed, none_listed}
use Rattle.importing.proofs.declaring.rising.Goals as goal
use Rattle.importing.proofs.declaring.rising.Goals.{then-flags-atom, else-flags-atom}

pub loop-atom-init : goal.loop-atom-init
unfolding padded flagged_from
loop-atom-init c = (refl, refl)

pub overflow_add-count : goal.overflow_add-count
overflow_add-count c = let few = flagged_few c.args.flags.now 0 c.loop-atom.atom in omega (arith, c.loop-atom.invariant.0, few)

pub loop-atom-preserved : goal.loop-atom-preserved
loop-atom-preserved c =
    let g = c.loop-atom.invariant in
    elim c.if-flags-atom.branch [
      | then-flags-atom w ↦
          let more = one_listed c.args.flags.now c.loop-atom.atom g.0 g.1 w.if-flags-atom.true in
          (w.count-is ∙ more.0, w.numbers-is ∙ w.put.ensures ∙ more.1)
      | else-flags-atom w ↦
          let same = none_listed c.args.flags.now c.loop-atom.atom g.0 g.1 w.if-flags-atom.false in
          (w.count-is ∙ same.0, w.numbers-is ∙ same.1)
    ]
