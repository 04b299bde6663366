-- `valuation::values::write_values` meets its contract. The loop's invariant: the bytes passed are written.
use Prim.Native.Nat.{ℕ}
use native.Mathlib.Omega.{arith}
use lib.ListN.{length-take}
use Rattle.valuation.proofs.ValueLaws.{valued_filled}
use Rattle.valuation.proofs.values.write_values.Goals as goal

pub returns : goal.returns
returns c =
    let a = c.args in
    let size = c.loop-o.auto.byte-items in
    valued_filled a.trues.now a.falses.now a.count c.loop-o.byte-items a.model.now (rw size (omega (arith, length-take {A = ℕ})))
    (λ j h. c.loop-o.invariant j (omega (arith, length-take {A = ℕ})))
