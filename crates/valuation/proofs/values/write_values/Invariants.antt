-- `valuation::values::write_values` meets its contract. The loop's invariant: the bytes passed are written.
use mathlib.Core.Path.{◌≡◌}
use Prim.Native.Nat.{ℕ, ◌<◌}
use lib.ListN.{get_or}
use Rattle.model.specs.Model.{value_byte}
use Rattle.lanes.specs.Lanes.{lane_bit}
use Rattle.valuation.proofs.values.write_values.Given as goal

abbrev pub invariant-loop-o : goal.invariant-loop-o
invariant-loop-o l =
    (j : ℕ) → j < l.o → get_or l.byte-items j 0 ≡ value_byte (lane_bit 0 (get_or l.trues j 0)) (lane_bit 0 (get_or l.falses j 0))
