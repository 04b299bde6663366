-- `model::scenario_count` meets its contract: the power of at most 16 abducibles fits.
use Prim.Native.Nat.{◌^◌, ◌≤◌}
use native.Mathlib.Omega.{arith}
use native.Mathlib.Nat.{pow-le-pow_right}
use Rattle.model.proofs.scenario_count.Goals as goal

pub pow-requires : goal.pow-requires
pow-requires c =
    let n = c.args.abducibles in
    let h : 3 ^ n ≤ 3 ^ 16 = pow-le-pow_right {n = 3} (omega arith) {i = n} {j = 16} (omega arith) in
    omega arith
