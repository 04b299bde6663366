-- The numbers of a line in its field, as the code gathers them token by token.
use Rattle.std.specs.Prelude.{◌≡◌, Option, Some, None, cond, List, [], ◌∷◌, ℕ, zero, suc, ◌+◌, ◌*◌}
use Rattle.text.specs.declared.token.Token.{Token}
use Rattle.text.specs.declared.line.Stage.{Stage}
use Rattle.text.specs.declared.line.Stage.TheVariants as stage
use Rattle.text.specs.Lines.{accepted, Line, fresh, is_atom}
use Rattle.text.specs.Briefly.{numbers_of}
use Rattle.text.specs.Told.{kind_of, number_of}
use Rattle.text.specs.LineAnswers.{lines_at}

-- As many numbers as there is room for: the first of these, and zeros after the last.
unfoldable pub padded : ℕ → List ℕ → List ℕ
padded zero numbers = []
padded (suc room) [] = 0 ∷ padded room []
padded (suc room) (n ∷ more) = n ∷ padded room more

-- Where the number of an atom stands among the line's; 17 where it has none.
abbrev pub place_of : Stage → ℕ
place_of stage.Fresh = 0
place_of (stage.Declaring start) = 0
place_of (stage.Declared b) = 17
place_of (stage.Negated start) = 0
place_of (stage.Headed b) = 17
place_of (stage.Due b) = b.count
place_of (stage.Denied b) = b.count
place_of (stage.NegatedIn b) = b.count
place_of (stage.DeniedNegated b) = b.count
place_of (stage.Said b) = 17

unfoldable pub place_said : Stage → ℕ → ℕ
place_said stage kind = cond (is_atom kind) (place_of stage) 17

-- The number that an atom says: a declared atom, a head, or a literal.
unfoldable pub number_said : Stage → ℕ → ℕ
number_said stage.Fresh a = 2 * a
number_said (stage.Declaring start) a = a
number_said (stage.Declared b) a = 0
number_said (stage.Negated start) a = 2 * a + 1
number_said (stage.Headed b) a = 0
number_said (stage.Due b) a = 4 * a
number_said (stage.Denied b) a = 4 * a + 1
number_said (stage.NegatedIn b) a = 4 * a + 2
number_said (stage.DeniedNegated b) a = 4 * a + 3
number_said (stage.Said b) a = 0

-- What a token says: its place among the line's numbers, and its number; or that it says none.
abbrev pub SaidTells : Stage → Token → Option (ℕ × ℕ) → Type 0
SaidTells stage token (Some said) = (said.0 ≡ place_said stage (kind_of token)) × (said.1 ≡ number_said stage (number_of token))
SaidTells stage token None = place_said stage (kind_of token) ≡ 17

-- Where a line stands from a place on, these are its numbers.
abbrev pub NumbersTell : List ℕ → ℕ → List ℕ → Type 0
NumbersTell text from numbers = (line : Line) (rest : List Line) → lines_at text fresh from ≡ accepted (line ∷ rest) → numbers ≡ padded 17 (numbers_of line)
