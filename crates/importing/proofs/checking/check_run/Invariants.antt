-- `importing::checking::check_run` meets its contract. The loop's invariant: what the checks come to from the start, they come to from here.
use Prim.Native.Nat.{◌-◌}
use lib.ListN.{length}
use Rattle.text.specs.Briefly.{tag_byte}
use Rattle.importing.proofs.RunLaws.{Checking}
use Rattle.importing.proofs.checking.check_run.Given as goal

abbrev pub invariant-loop-line : goal.invariant-loop-line
invariant-loop-line l = Checking l.text (tag_byte l.kind) l.most l.at l.room l.size

abbrev pub decreases-loop-line : goal.decreases-loop-line
decreases-loop-line l = length l.text - l.at
