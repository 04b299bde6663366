-- `parts::mark_parts` meets its contract. The loop's invariant: the first visits are marked, and their rows are within `reach`.
use Rattle.parts.specs.Parts.{parity}
use Rattle.parts.proofs.ReachLaws.{MarkedTo}
use Rattle.parts.proofs.mark_parts.Given as goal

abbrev pub invariant-loop-i : goal.invariant-loop-i
invariant-loop-i l = MarkedTo (parity l.kind) l.count l.numbers l.lasts l.initial.visits l.i l.reach l.visits
