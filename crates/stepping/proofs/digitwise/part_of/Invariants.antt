-- The digits that are left decide.
use mathlib.Core.Path.{◌≡◌}
use Prim.Native.Nat.{◌-◌}
use Rattle.steps.specs.Explanations.{part_of}
use Rattle.stepping.proofs.digitwise.part_of.Given as goal

abbrev pub invariant-loop : goal.invariant-loop
invariant-loop l = part_of l.k l.a l.b ≡ part_of (l.k - l.counter) l.x l.y
