-- The order in which rows are visited. Any will do that names each row; a good one lets passes end early.
use Rattle.std.specs.Prelude.{◌≡◌, List, ℕ, ◌<◌, get_or}

-- A row's place among those visited, and a visit's row.
pub record Meets (count : ℕ) (starts visits : List ℕ) (row visit : ℕ) : Type 0 where
  pub row_below : row < count
  pub visit_below : visit < count
  pub meets : get_or visits visit 0 ≡ get_or starts row 0

-- Each of the first `count` visits is to the start of a row, and each of the first `count` rows is visited.
pub record Visits (count : ℕ) (starts visits : List ℕ) : Type 0 where
  pub row_of : ℕ → ℕ
  pub visit_of : ℕ → ℕ
  pub each : (visit : ℕ) → visit < count → Meets count starts visits (row_of visit) visit
  pub every : (row : ℕ) → row < count → Meets count starts visits row (visit_of row)
