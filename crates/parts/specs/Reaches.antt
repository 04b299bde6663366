-- How far rows ask among visits.
use Rattle.std.specs.Prelude.{ℕ, ◌+◌, ◌*◌, ◌≤◌, ◌<◌, ◌≡◌, List, get_or}
use Rattle.parts.specs.Parts.{head_at}

-- `lasts` has for a head how many of the first `done` visits there are up to the last one to a row of that head. Of a head that it has no
-- room for nothing is known, so that stands for all of the `count` visits.
pub record Lasts (count : ℕ) (numbers visits lasts : List ℕ) (done : ℕ) : Type 0 where
  pub last : (j : ℕ) → j < done → j + 1 ≤ get_or lasts (head_at numbers visits j) count

-- What a number asks for is not visited from `reach` on.
pub record Within (by count : ℕ) (lasts : List ℕ) (number reach : ℕ) : Type 0 where
  pub asked : (o : ℕ) → number ≡ 2 * o + by → get_or lasts o count ≤ reach

-- Nor is what the first `size` numbers of a row ask for.
pub record Reaches (by count : ℕ) (numbers lasts : List ℕ) (place size reach : ℕ) : Type 0 where
  pub each : (k : ℕ) → k < size → Within by count lasts (get_or numbers (place + 2 + k) 0) reach

-- The whole row.
abbrev pub RowReaches : ℕ → ℕ → List ℕ → List ℕ → ℕ → ℕ → Type 0
RowReaches by count numbers lasts place reach = Reaches by count numbers lasts place (get_or numbers (place + 1) 0) reach
