-- "Two 16-bit masks, faults held as assumed (digit 1) and held as ruled out (digit 2), bit i for the i-th abducible."
use Rattle.std.specs.Prelude.{Bool, true, not, cond, Result, Ok, Err, ℕ, zero, suc, ◌/◌, ◌%◌, ◌^◌, eqb, leb}
use Rattle.papers.specs.Tests.{◌and◌, ◌or◌}
use Rattle.lanes.specs.Lanes.{lane_bit}
use Rattle.steps.specs.Explanations.{some_below}
use Rattle.held.specs.declared.MaskFault.{MaskFault}
use Rattle.held.specs.declared.MaskFault.TheVariants.{SharedBit, UnlistedBit}
-- Both masks, as the code declares them. Bit i of one is `lane_bit i`.
pub use Rattle.held.specs.declared.Masks.{Masks}

abbrev pub masks : ℕ → ℕ → Masks
masks assumed ruled = record { assumed = assumed; ruled = ruled }

-- ---- 15 and 16

unfoldable pub shared_at : Masks → ℕ → Bool
shared_at m i = lane_bit i m.assumed and lane_bit i m.ruled

-- "The masks share a bit."
unfoldable pub share : Masks → Bool
share m = some_below 16 (shared_at m)

unfoldable pub unlisted_at : ℕ → Masks → ℕ → Bool
unlisted_at k m i = leb k i and (lane_bit i m.assumed or lane_bit i m.ruled)

-- "A bit at or above k is set."
unfoldable pub unlisted : ℕ → Masks → Bool
unlisted k m = some_below 16 (unlisted_at k m)

-- "15 when the masks share a bit, then 16 when a bit at or above k is set."
unfoldable pub masks_tested : ℕ → Masks → Result (Unit {0}) MaskFault
masks_tested k m = cond (share m) (Err SharedBit) (cond (unlisted k m) (Err UnlistedBit) (Ok tt))

-- ---- agreeing

-- A fault that is held has the digit, one that is not any: "a scenario whose digit at a held fault is another, 0 too", does not agree.
unfoldable pub keeps : Bool → ℕ → ℕ → Bool
keeps held digit own = not held or eqb own digit

-- Scenario s agrees at the i-th abducible, whose digit it has as `s / 3 ^ i % 3`.
unfoldable pub agrees_at : Masks → ℕ → ℕ → Bool
agrees_at m s i = keeps (lane_bit i m.assumed) 1 (s / 3 ^ i % 3) and keeps (lane_bit i m.ruled) 2 (s / 3 ^ i % 3)

-- And so at each of the first k.
unfoldable pub agrees : ℕ → Masks → ℕ → Bool
agrees zero m s = true
agrees (suc k) m s = agrees k m s and agrees_at m s k
