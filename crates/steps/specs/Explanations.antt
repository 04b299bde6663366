-- Parts of scenarios, explanations, minimal explanations and the stopping point.
use Rattle.std.specs.Prelude.{Bool, true, false, not, cond, List, [], ◌∷◌, ◌++◌, ℕ, zero, suc, ◌+◌, ◌/◌, ◌%◌, ◌^◌, eqb, get_or}
use Rattle.papers.specs.Tests.{◌and◌, ◌or◌}

-- What a file and a sheet come to: k abducibles, which scenarios are explanations, and each scenario's round count. The theory of
-- the search is over these three, whatever an explanation is and whatever a scenario costs.
pub record Problem : Type 0 where
  pub abducibles : ℕ
  pub explains : ℕ → Bool
  pub rounds : ℕ → ℕ

-- "Scenario s below 3^k."
abbrev pub scenarios : Problem → ℕ
scenarios P = 3 ^ P.abducibles

-- A digit that is zero, or equal.
unfoldable pub part_digit : ℕ → ℕ → Bool
part_digit d e = eqb d 0 or eqb d e

-- "Only part of its assumptions (nonzero digits, equal where nonzero)": of the k digits of a, each that is not zero is b's. Digits
-- are "in base 3, lowest first".
unfoldable pub part_of : ℕ → ℕ → ℕ → Bool
part_of zero a b = true
part_of (suc k) a b = part_digit (a % 3) (b % 3) and part_of k (a / 3) (b / 3)

-- Some number below n passes a test.
unfoldable pub some_below : ℕ → (ℕ → Bool) → Bool
some_below zero test = false
some_below (suc n) test = test n or some_below n test

-- t is another explanation than s and has only part of its assumptions.
unfoldable pub lesser : Problem → ℕ → ℕ → Bool
lesser P s t = P.explains t and (part_of P.abducibles t s and not (eqb t s))

-- "An explanation is minimal if no other explanation has only part of its assumptions."
unfoldable pub minimal : Problem → ℕ → Bool
minimal P s = P.explains s and not (some_below (scenarios P) (lesser P s))

-- The minimal explanations below n, rising.
unfoldable pub minimals : Problem → ℕ → List ℕ
minimals P zero = []
minimals P (suc n) = minimals P n ++ cond (minimal P n) (n ∷ []) []

-- "Stopping point: the number of minimal explanation L+1 in rising order, else 3^k."
unfoldable pub stop : Problem → ℕ → ℕ
stop P L = get_or (minimals P (scenarios P)) L (scenarios P)

-- f 0 + f 1 + .. + f (n - 1).
unfoldable pub sum_below : ℕ → (ℕ → ℕ) → ℕ
sum_below zero f = 0
sum_below (suc n) f = sum_below n f + f n

-- The round counts from scenario p on.
abbrev pub rounds_from : Problem → ℕ → ℕ → ℕ
rounds_from P p i = P.rounds (p + i)
