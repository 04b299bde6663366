-- Document 01's line of an explanation. "The words stand as shown, with one space between items."
use Rattle.std.specs.Prelude.{cond, List, [], ◌∷◌, ◌++◌, ℕ, ◌/◌, ◌%◌, eqb}
use Rattle.decimals.specs.Decimal.{decimal}
use Rattle.decimals.specs.Text.{ascii, line}

abbrev pub found_word : List ℕ
found_word = ascii "found"

-- `+` for an assumed abducible, digit 1, and `-` for a ruled-out one.
unfoldable pub sign : ℕ → ℕ
sign digit = cond (eqb digit 1) 43 45

-- An abducible's item: none where it is open, digit 0.
unfoldable pub assumption : ℕ → ℕ → List (List ℕ)
assumption atom digit = cond (eqb digit 0) [] ((decimal atom ++ (sign digit ∷ [])) ∷ [])

-- "Each assumed (+) or ruled-out (-) atom, rising": the abducibles, the digits of the scenario in base 3, lowest first.
unfoldable pub assumptions : List ℕ → ℕ → List (List ℕ)
assumptions [] scenario = []
assumptions (atom ∷ more) scenario = assumption atom (scenario % 3) ++ assumptions more (scenario / 3)

-- `found 1 1+`: "the word found, its scenario, then each assumed or ruled-out atom".
unfoldable pub found_line : ℕ → List ℕ → List ℕ
found_line scenario abducibles = line found_word (decimal scenario ∷ assumptions abducibles scenario)
