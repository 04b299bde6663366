-- The digits behind have their words.
use mathlib.Core.Path.{◌≡◌}
use Prim.Native.Nat.{◌^◌}
use Rattle.stepping.proofs.ContainingLaws.{Tabled}
use Rattle.stepping.proofs.contained.digit_table.Given as goal

abbrev pub invariant-loop-i : goal.invariant-loop-i
invariant-loop-i l = (l.power ≡ 3 ^ l.i) × Tabled l.i l.base l.table
