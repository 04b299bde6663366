-- An array of which the first numbers may change.
use Rattle.std.specs.Prelude.{◌≡◌, List, ℕ, ◌≤◌, length, get_or}

-- From `count` on the numbers stay.
pub record StaysFrom (count : ℕ) (before after : List ℕ) : Type 0 where
  pub sized : length after ≡ length before
  pub beyond : (k : ℕ) → count ≤ k → get_or after k 0 ≡ get_or before k 0
