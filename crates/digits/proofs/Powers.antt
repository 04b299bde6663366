-- The power of 3 at which a digit stands, up to the sixteenth.
-- Assumes nothing.
use mathlib.Core.Path.{◌≡◌}
use Prim.Native.Nat.{ℕ, ◌+◌, ◌*◌, ◌^◌, ◌≤◌, ◌<◌}
use native.Mathlib.Omega.{arith}
use native.Mathlib.Nat.{pow-le-pow_right}
use native.Mathlib.Numerals.{add-one}

pub power_fits : {power i : ℕ} → power ≡ 3 ^ i → i ≤ 16 → (0 < power) × (power ≤ 43046721)
power_fits {power} {i} e h =
    let low : 3 ^ 0 ≤ 3 ^ i = pow-le-pow_right {n = 3} (omega arith) {i = 0} {j = i} (omega arith) in
    let high : 3 ^ i ≤ 3 ^ 16 = pow-le-pow_right {n = 3} (omega arith) {i = i} {j = 16} (omega arith) in
    (omega arith, omega arith)

pub power_next : (power i : ℕ) → power ≡ 3 ^ i → power * 3 ≡ 3 ^ (i + 1)
power_next power i e = rw (add-one i) (omega arith)
