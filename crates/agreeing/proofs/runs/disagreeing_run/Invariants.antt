-- The faults behind are looked at.
use mathlib.Core.Path.{◌≡◌}
use Prim.Native.Nat.{◌^◌}
use Rattle.agreeing.proofs.RunLaws.{Passing}
use Rattle.agreeing.proofs.runs.disagreeing_run.Given as goal

abbrev pub invariant-loop-i : goal.invariant-loop-i
invariant-loop-i l = (l.power ≡ 3 ^ l.i) × Passing l.k l.i l.held l.scenario l.run
