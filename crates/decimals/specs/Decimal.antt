-- Numbers in decimal.
use Rattle.std.specs.Prelude.{cond, List, [], ◌∷◌, ◌++◌, ℕ, zero, suc, ◌+◌, ◌/◌, ◌%◌, ltb}

-- The digits of a number, as bytes: 48 is `0`. Each takes one of the room; below 10 there is one digit.
unfoldable pub digits : ℕ → ℕ → List ℕ
digits zero n = []
digits (suc room) n = let higher = digits room (n / 10) in cond (ltb n 10) ((48 + n) ∷ []) (higher ++ ((48 + n % 10) ∷ []))

-- A number without leading zeros; 0 is `0`. It has no more digits than one more than itself.
unfoldable pub decimal : ℕ → List ℕ
decimal n = digits (suc n) n
