-- Lines of explanations, document 01's own first, computed. Assumes nothing.
use mathlib.Core.Path.{◌≡◌, refl}
use mathlib.Core.List.{[], ◌∷◌}
use Rattle.decimals.specs.Decimal.{digits, decimal}
use Rattle.decimals.specs.Text.{ascii, spaced, line}
use Rattle.found_lines.specs.FoundLine.{sign, assumption, assumptions, found_line}

pub found : found_line 1 (1 ∷ []) ≡ ascii "found 1 1+\n"
unfolding found_line assumptions assumption sign line spaced decimal digits
found = refl

pub found_three : found_line 25 (0 ∷ 7 ∷ 120 ∷ []) ≡ ascii "found 25 0+ 7- 120-\n"
unfolding found_line assumptions assumption sign line spaced decimal digits
found_three = refl
