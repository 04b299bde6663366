-- Words that are written by a function.
use Rattle.std.specs.Prelude.{List, ℕ, ◌<◌, get_or}
use Rattle.lanes.specs.Lanes.{KeptFrom}

-- The first n words of a row are written, word o by what a function may answer at o; past them the row stays.
pub record WrittenBy (Answers : ℕ → ℕ → Type 0) (n : ℕ) (before after : List ℕ) : Type 0 where
  pub at : (o : ℕ) → o < n → Answers o (get_or after o 0)
  pub beyond : KeptFrom n before after
