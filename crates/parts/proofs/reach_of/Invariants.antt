-- `parts::reach_of` meets its contract. The loop's invariant: the first numbers of the row are within `reach`.
use Prim.Native.Nat.{◌≤◌}
use Rattle.parts.specs.Parts.{parity}
use Rattle.parts.specs.Reaches.{Reaches}
use Rattle.parts.proofs.reach_of.Given as goal

abbrev pub invariant-loop-at : goal.invariant-loop-at
invariant-loop-at l = (l.least ≤ l.reach) × Reaches (parity l.kind) l.count l.numbers l.lasts l.place l.at l.reach
