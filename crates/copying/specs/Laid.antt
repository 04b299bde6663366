-- Numbers laid in an array.
use Rattle.std.specs.Prelude.{List, ◌++◌, ℕ, take}
use Rattle.dual.specs.Bytes.{filled}

-- An array in which numbers are laid from a place on; what stands before and after them stays.
unfoldable pub laid : ℕ → List ℕ → List ℕ → List ℕ
laid at numbers before = filled (take at before ++ numbers) before
