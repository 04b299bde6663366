-- Sets of judged literals, as lists of flags: flag o says whether objective literal o is in. Past the end nothing is in.
use Rattle.std.specs.Prelude.{Bool, true, false, not, List, [], ◌∷◌, ℕ, zero, suc, get_or, replicate}
use Rattle.papers.specs.Tests.{◌and◌}

abbrev pub Set : Type 0
Set = List Bool

-- o is in the set.
abbrev pub has : Set → ℕ → Bool
has set o = get_or set o false

-- The n flags from o on, by a test.
unfoldable pub flags_from : (ℕ → Bool) → ℕ → ℕ → Set
flags_from test zero o = []
flags_from test (suc n) o = test o ∷ flags_from test n (suc o)

-- Those below n that pass a test.
abbrev pub set_of : ℕ → (ℕ → Bool) → Set
set_of n test = flags_from test n 0

unfoldable pub empty : ℕ → Set
empty n = replicate n false

unfoldable pub full : ℕ → Set
full n = replicate n true

-- Those below n outside the set.
unfoldable pub complement : ℕ → Set → Set
complement n set = set_of n (λ o. not (has set o))

unfoldable pub same_flag : Bool → Bool → Bool
same_flag true b = b
same_flag false b = not b

unfoldable pub same_set : Set → Set → Bool
same_set [] [] = true
same_set [] (b ∷ t) = false
same_set (a ∷ s) [] = false
same_set (a ∷ s) (b ∷ t) = same_flag a b and same_set s t
