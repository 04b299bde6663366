-- The lanes behind have their rounds.
use Rattle.agreeing.proofs.AgreeingLaws.{RoundsBelow}
use Rattle.agreeing.proofs.agreeing_rounds.Given as goal

abbrev pub invariant-loop-l : goal.invariant-loop-l
invariant-loop-l v = RoundsBelow v.l v.word v.fn.rounds v.after
