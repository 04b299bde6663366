-- Parts of the visits to rows: what can be settled for itself, since no row up to its end asks for what comes after it.
use Rattle.std.specs.Prelude.{◌≡◌, Bool, true, false, List, map, ℕ, ◌+◌, ◌-◌, ◌*◌, ◌%◌, ◌≤◌, ◌<◌, leb, length, get_or}
use Rattle.arrays.specs.Staying.{StaysFrom}
use Rattle.parts.specs.declared.RowKind.{RowKind}
use Rattle.parts.specs.declared.RowKind.TheVariants.{Rule, Entry}

-- ---- marks

-- A visit says where its row starts, and by 32,768 more that a part ends with it.
unfoldable pub place_of : ℕ → ℕ
place_of visit = visit % 32768

unfoldable pub ends_part : ℕ → Bool
ends_part visit = leb 32768 visit

unfoldable pub places_of : List ℕ → List ℕ
places_of visits = map place_of visits

-- Visits that say places alone.
pub record Unmarked (count : ℕ) (visits : List ℕ) : Type 0 where
  pub below : (i : ℕ) → i < count → get_or visits i 0 < 32768

-- Some of them marked.
pub record Marked (count : ℕ) (before after : List ℕ) : Type 0 where
  pub places : (i : ℕ) → i < count → place_of (get_or after i 0) ≡ get_or before i 0
  pub stays : StaysFrom count before after

-- ---- parts

-- The parity of the numbers by which rows of a kind ask.
abbrev pub parity : RowKind → ℕ
parity Rule = 0
parity Entry = 1

-- A row is its head, how many numbers follow, and these. It asks for o by the number 2o, or by 2o + 1, as `by` says, 0 or 1.
pub record Asks (by : ℕ) (numbers : List ℕ) (place o : ℕ) : Type 0 where
  pub at : ℕ
  pub within : at < get_or numbers (place + 1) 0
  pub asked : get_or numbers (place + 2 + at) 0 ≡ 2 * o + by

-- The head of the row that is visited.
unfoldable pub head_at : List ℕ → List ℕ → ℕ → ℕ
head_at numbers visits i = get_or numbers (place_of (get_or visits i 0)) 0

-- No row up to the end of a part asks for the head of a row after it.
pub record Parted (by count : ℕ) (numbers visits : List ℕ) : Type 0 where
  pub apart : (i e j : ℕ) → i ≤ e → e < j → j < count → ends_part (get_or visits e 0) ≡ true
      → Asks by numbers (place_of (get_or visits i 0)) (head_at numbers visits j) → ⊥

-- A part from `start` on: it ends with the first marked visit, or with the last.
pub record PartEnd (visits : List ℕ) (start end : ℕ) : Type 0 where
  pub later : start < end
  pub within : end ≤ length visits
  pub marked : end < length visits → ends_part (get_or visits (end - 1) 0) ≡ true
  pub first : (i : ℕ) → start ≤ i → i + 1 < end → ends_part (get_or visits i 0) ≡ false

-- No row before `start` asks for the head of one from there on.
pub record Apart (by count : ℕ) (numbers visits : List ℕ) (start : ℕ) : Type 0 where
  pub apart : (i j : ℕ) → i < start → start ≤ j → j < count
      → Asks by numbers (place_of (get_or visits i 0)) (head_at numbers visits j) → ⊥
