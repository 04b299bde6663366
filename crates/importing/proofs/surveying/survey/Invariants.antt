-- `importing::surveying::survey` meets its contract. The loop's invariant: the atom count of the lines that were read.
use Prim.Native.Nat.{◌-◌}
use lib.ListN.{length}
use Rattle.importing.proofs.SurveyLaws.{Surveying}
use Rattle.importing.proofs.surveying.survey.Given as goal

abbrev pub invariant-loop-line : goal.invariant-loop-line
invariant-loop-line l = Surveying l.text l.at l.atoms

abbrev pub decreases-loop-line : goal.decreases-loop-line
decreases-loop-line l = length l.text - l.at
