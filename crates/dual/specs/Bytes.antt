-- A program's dual in bytes, and a lent buffer that is filled from its start.
use Rattle.std.specs.Prelude.{◌≡◌, List, ◌++◌, ℕ, length, drop}
use Rattle.papers.specs.Program.{Program}
use Rattle.dual.specs.Table.{dual}
use Rattle.dual.specs.TableEncoding.{encode_dual}

abbrev pub dual_of : Program → List ℕ
dual_of p = encode_dual (dual p)

-- "The writer fills the lent buffer from its start; bytes beyond stay."
abbrev pub filled : List ℕ → List ℕ → List ℕ
filled bytes buffer = bytes ++ drop (length bytes) buffer

-- Bytes written so, and how many they are.
abbrev pub Fills : List ℕ → List ℕ → ℕ → List ℕ → Type 0
Fills bytes buffer count after = (count ≡ length bytes) × (after ≡ filled bytes buffer)
