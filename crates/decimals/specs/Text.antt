-- Text in a buffer, and the items of a line.
use Rattle.std.specs.Prelude.{◌≡◌, List, [], ◌∷◌, ◌++◌, ℕ, suc, ◌+◌, length, set}
use Prim.Native.Char.{code}
use Prim.Native.String.{String}
use Prim.Native.String as string

-- The characters of a text by their numbers; those of all texts here are ASCII, so these are its bytes.
abbrev pub ascii : String → List ℕ
ascii string.[] = []
ascii (string.◌∷◌ c more) = code c ∷ ascii more

-- A buffer once text stands in it from a place on: its other bytes stay, and what lies past its end is left out.
unfoldable pub written : ℕ → List ℕ → List ℕ → List ℕ
written at [] buffer = buffer
written at (byte ∷ text) buffer = written (suc at) text (set buffer at byte)

-- What putting text from a place on comes to: the place after it, and the buffer afterwards.
pub record Put (at : ℕ) (text buffer : List ℕ) (end : ℕ) (after : List ℕ) : Type 0 where
  pub place : end ≡ at + length text
  pub bytes : after ≡ written at text buffer

-- Items, each after one space (32).
unfoldable pub spaced : List (List ℕ) → List ℕ
spaced [] = []
spaced (item ∷ more) = 32 ∷ (item ++ spaced more)

-- A line: its items "with one space between", then the newline (10).
unfoldable pub line : List ℕ → List (List ℕ) → List ℕ
line first more = first ++ (spaced more ++ (10 ∷ []))
