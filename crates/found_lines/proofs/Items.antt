-- The items of a found line: each assumed or ruled-out abducible. Assumes nothing.
use mathlib.Core.Path.{◌≡◌, refl, ap}
use mathlib.Core.List.{List, [], ◌∷◌, ◌++◌, append-nil}
use Prim.Native.Nat.{ℕ, ◌/◌, ◌%◌, ◌<◌}
use native.Mathlib.Omega.{arith}
use borrow.Author.Tests.{eq-eqb, ne_eqb}
use lib.ListN.{length, get_or}
use Rattle.papers.specs.Field.{number, numbers}
use Rattle.decimals.specs.Decimal.{decimal}
use Rattle.decimals.specs.Text.{spaced}
use Rattle.found_lines.specs.FoundLine.{sign, assumption, assumptions}
use Rattle.decimals.proofs.Putting.{spaced_append}

-- ---- one abducible

pub sign_assumed : (digit : ℕ) → digit ≡ 1 → sign digit ≡ 43
unfolding sign
sign_assumed digit e = rw (eq-eqb digit 1 e)

pub sign_other : (digit : ℕ) → (digit ≡ 1 → ⊥) → sign digit ≡ 45
unfolding sign
sign_other digit e = rw (ne_eqb digit 1 e)

pub item_open : (atom digit : ℕ) → digit ≡ 0 → spaced (assumption atom digit) ≡ []
unfolding assumption spaced
item_open atom digit e = rw (eq-eqb digit 0 e)

pub item_signed : (atom digit : ℕ) → (digit ≡ 0 → ⊥) → spaced (assumption atom digit) ≡ (32 ∷ decimal atom) ++ (sign digit ∷ [])
unfolding assumption spaced
item_signed atom digit e = rw (ne_eqb digit 0 e) (ap (λ (l : List ℕ). 32 ∷ l) (append-nil (decimal atom ++ (sign digit ∷ []))))

-- ---- all of them

-- Fewer than two bytes hold no abducible.
pub items_none : (content : List ℕ) (rest : ℕ) → length content < 2 → spaced (assumptions (numbers content) rest) ≡ []
unfolding numbers assumptions spaced
items_none [] rest h = refl
items_none (high ∷ []) rest h = refl
items_none (high ∷ low ∷ more) rest h = absurd (omega arith)

-- The first abducible, and those after it.
pub items_next : (pair more : List ℕ) (atom rest : ℕ) → length pair ≡ 2 → atom ≡ number (get_or pair 0 0) (get_or pair 1 0)
    → spaced (assumptions (numbers (pair ++ more)) rest)
    ≡ spaced (assumption atom (rest % 3)) ++ spaced (assumptions (numbers more) (rest / 3))
unfolding numbers assumptions
items_next (high ∷ low ∷ []) more atom rest h e =
    rw (← e) (spaced_append (assumption atom (rest % 3)) (assumptions (numbers more) (rest / 3)))
items_next [] more atom rest h e = absurd (omega arith)
items_next (high ∷ []) more atom rest h e = absurd (omega arith)
items_next (high ∷ low ∷ other ∷ others) more atom rest h e = absurd (omega arith)
