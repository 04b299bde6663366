-- `parts::find_lasts` meets its contract. The loop's invariant: the last visits are found among those done.
use Rattle.parts.specs.Reaches.{Lasts}
use Rattle.parts.proofs.find_lasts.Given as goal

abbrev pub invariant-loop-i : goal.invariant-loop-i
invariant-loop-i l = Lasts l.count l.numbers l.visits l.lasts l.i
