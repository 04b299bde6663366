-- Sixty-four scenarios at once: the word of a literal, and that of a body.
use Rattle.std.specs.Prelude.{◌≡◌, false, not, cond, List, [], ◌∷◌, ℕ, ◌+◌, ◌-◌, ◌<◌, length, get_or}
use Rattle.std.specs.Int.Bits.{bit_or}
use Rattle.literals.specs.declared.bodies.BodyLiteral.{BodyLiteral}
use Rattle.literals.specs.declared.bodies.BodyLiteral.TheVariants.{Is, Undefined}
use Rattle.literals.specs.Numbering.{objective_number, default_negated}
use Rattle.literals.specs.BodyLiterals.{body_literal, Below}
use Rattle.papers.specs.Valid.{All}
use Rattle.model.specs.LeastSet.{body_holds}
use Rattle.papers.specs.Tests.{◌and◌}
use Rattle.lanes.specs.Lanes.{lane_bit, lane}

-- The other lanes of a word.
pub record OtherLanes (word other : ℕ) : Type 0 where
  pub at : (l : ℕ) → l < 64 → lane_bit l other ≡ not (lane_bit l word)

-- The lanes in which a body literal holds: those of o in `set`, of not(g) those of g in `negated`, and none of u.
unfoldable pub word_of : BodyLiteral → List ℕ → List ℕ → ℕ
word_of (Is l) set negated = cond (default_negated l.0) (get_or negated (objective_number l.0) 0) (get_or set (objective_number l.0) 0)
word_of Undefined set negated = 0

-- The objective literal of each literal is one of the first n.
pub record Literals (n : ℕ) (body : List ℕ) : Type 0 where
  pub below : All (λ l. Below n (body_literal l)) body

-- A body's word: those of the lanes in which it holds, of however many objective literals it speaks. u never holds.
pub record BodyWord (body set negated : List ℕ) (lanes word : ℕ) : Type 0 where
  pub in_lane : (n : ℕ) → Literals n body → (l : ℕ)
      → lane_bit l word ≡ (lane_bit l lanes and body_holds false (lane n l set) (lane n l negated) body)

-- ---- rows of words

-- The other lanes of word o.
unfoldable pub other_word : List ℕ → ℕ → ℕ
other_word words o = 18446744073709551615 - get_or words o 0

-- The lanes of either.
unfoldable pub joined_word : List ℕ → List ℕ → ℕ → ℕ
joined_word first second o = bit_or (get_or first o 0) (get_or second o 0)

-- The same word everywhere.
unfoldable pub same_word : ℕ → ℕ → ℕ
same_word word o = word

-- The sum of some words: it rises with each bit that comes in, and falls with each that goes.
unfoldable pub total : List ℕ → ℕ
total [] = 0
total (w ∷ more) = w + total more

-- What the type of an array of words says: a word for each judged literal that a file can have, each of 64 lanes.
pub record Laned (words : List ℕ) : Type 0 where
  pub many : length words ≡ 513
  pub fits : (o : ℕ) → get_or words o 0 < 18446744073709551616
