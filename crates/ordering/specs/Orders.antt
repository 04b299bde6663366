-- An order that was tested, and what is written from an array's start on.
use Rattle.std.specs.Prelude.{◌≡◌, List, ℕ, ◌<◌, get_or}
use Rattle.arrays.specs.Staying.{StaysFrom}
use Rattle.rows.specs.Visits.{Visits}

-- ---- an order that was tested

-- At place k of an order stands a row, and row k stands at the place that its rank says.
pub record Placed (count : ℕ) (order ranks : List ℕ) (k : ℕ) : Type 0 where
  pub row_below : get_or order k 0 < count
  pub rank_below : get_or ranks k 0 < count
  pub at_rank : get_or order (get_or ranks k 0) 0 ≡ k

-- So it is at every place and for every row.
pub record Ordered (count : ℕ) (order ranks : List ℕ) : Type 0 where
  pub placed : (k : ℕ) → k < count → Placed count order ranks k

-- ---- writing into an array

-- The first `count` numbers are what a function says of their places, and the others stay.
pub record Written (number : ℕ → ℕ) (count : ℕ) (before after : List ℕ) : Type 0 where
  pub at : (k : ℕ) → k < count → get_or after k 0 ≡ number k
  pub stays : StaysFrom count before after

-- In the rows' own order a row's number stands at its own place.
abbrev pub own : ℕ → ℕ
own k = k

-- Where the row starts that stands at a place of an order.
abbrev pub start_at : List ℕ → List ℕ → ℕ → ℕ
start_at order starts k = get_or starts (get_or order k 0) 0

-- Visits to each of the rows, and the numbers past them as they were.
abbrev pub Visited : ℕ → List ℕ → List ℕ → List ℕ → Type 0
Visited count starts before after = Visits count starts after × StaysFrom count before after
