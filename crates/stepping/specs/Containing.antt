-- Which of 64 scenarios that follow one another contain the assumptions of an entry: scenario base + l in lane l.
use Rattle.std.specs.Prelude.{◌≡◌, not, List, [], ℕ, ◌+◌, ◌/◌, ◌%◌, ◌^◌, ◌<◌, ◌≤◌, get_or, take}
use Rattle.papers.specs.Tests.{◌and◌}
use Rattle.lanes.specs.Lanes.{lane_bit}
use Rattle.steps.specs.Explanations.{part_digit, part_of}
use Rattle.steps.specs.Continuing.{contains_one}
use Rattle.stepping.specs.declared.contained.NewLanes.{NewLanes}

-- For digit i of k and each d below 3, the lanes whose scenario's digit contains d.
pub record DigitTable (k base : ℕ) (table : List (List ℕ)) : Type 0 where
  pub at : (i d l : ℕ) → i < k → d < 3 → l < 64 → lane_bit l (get_or (get_or table i []) d 0) ≡ part_digit d ((base + l) / 3 ^ i % 3)

-- Those of some lanes whose scenario contains an entry's assumptions, whatever the scenarios of the table.
pub record EntryLanes (k : ℕ) (table : List (List ℕ)) (entry lanes word : ℕ) : Type 0 where
  pub at : (base : ℕ) → DigitTable k base table → (l : ℕ) → l < 64 → lane_bit l word ≡ (lane_bit l lanes and part_of k entry (base + l))

-- Those whose scenario contains the assumptions of no entry.
pub record Without (k base : ℕ) (entries : List ℕ) (lanes word : ℕ) : Type 0 where
  pub at : (l : ℕ) → l < 64 → lane_bit l word ≡ (lane_bit l lanes and not (contains_one k entries (base + l)))

-- Whatever the scenarios of the table.
pub record LanesLeft (k : ℕ) (table : List (List ℕ)) (entries : List ℕ) (lanes word : ℕ) : Type 0 where
  pub without : (base : ℕ) → DigitTable k base table → Without k base entries lanes word

-- The lanes of the explanations that are new to the first entries, as many as are told.
pub record NewToFirst (k base : ℕ) (list : List ℕ) (found explained : ℕ) (new : NewLanes) : Type 0 where
  pub few : new.entries ≤ found
  pub without : Without k base (take new.entries list) explained new.lanes
