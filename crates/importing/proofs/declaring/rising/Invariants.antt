-- `importing::declaring::rising` meets its contract. The loop's invariant: the flagged atoms up to here are listed.
use mathlib.Core.Path.{◌≡◌}
use lib.ListN.{length}
use Rattle.text.specs.LineNumbers.{padded}
use Rattle.importing.specs.Passes.{flagged_from}
use Rattle.importing.proofs.declaring.rising.Given as goal

abbrev pub invariant-loop-atom : goal.invariant-loop-atom
invariant-loop-atom l =
    (l.count ≡ length (flagged_from l.flags 0 l.atom)) × (l.numbers ≡ padded 17 (flagged_from l.flags 0 l.atom))
