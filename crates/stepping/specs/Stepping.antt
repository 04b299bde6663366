-- The steps of a call as code makes them.
use Rattle.std.specs.Prelude.{◌≡◌, Bool, List, ◌⊎◌, ℕ, ◌+◌, ◌*◌, ◌^◌, ◌<◌, ◌≤◌, length, get_or, take}
use Rattle.lanes.specs.Lanes.{lane_bit}
use Rattle.stepping.specs.declared.Move.{Move as Told}
use Rattle.stepping.specs.declared.Move.TheVariants.{Stands, Tries, Writes}
use Rattle.stepping.specs.declared.Progress.{Progress}
use Rattle.steps.specs.Explanations.{Problem}
use Rattle.steps.specs.Continuing.{new_to, Move, stands, tries, writes, move, Work, work, step, steps}

-- The move that is told.
abbrev pub move_of : Told → Move
move_of Stands = stands
move_of Tries = tries
move_of Writes = writes

-- A scenario that is tried is below 3^k, and one that is written finds room.
abbrev pub Allowed : Told → ℕ → ℕ → ℕ → List ℕ → Type 0
Allowed Stands k p found list = Unit {0}
Allowed Tries k p found list = p ≡ 3 ^ k → ⊥
Allowed Writes k p found list = (p ≡ 3 ^ k → ⊥) × (found < length list)

-- The move of every problem that has k abducibles and in which p is new to the first entries or not, as said.
pub record Decided (k p first found : ℕ) (list : List ℕ) (new : Bool) (told : Told) : Type 0 where
  pub is : (P : Problem) → P.abducibles ≡ k → new_to P (take first list) p ≡ new → move P p found list ≡ move_of told
  pub allowed : Allowed told k p found list

-- How far a call has come, with its list.
abbrev pub work_of : Progress → List ℕ → Work
work_of s list = work s.position s.found list s.tried s.rounds

-- What a call keeps, where there are `total` scenarios and each takes 1,026 rounds at most.
pub record Kept (total : ℕ) (s : Progress) (list : List ℕ) : Type 0 where
  pub within : s.position ≤ total
  pub held : s.found ≤ length list
  pub few : s.found ≤ s.position
  pub cost : s.rounds ≤ 1026 * s.tried

-- Up to `count` scenarios on: the position goes on by as many as are tried.
pub record Advance (total count : ℕ) (before : Progress) (list : List ℕ) (after : Progress) (left : List ℕ) : Type 0 where
  pub kept : Kept total after left
  pub size : length left ≡ length list
  pub least : before.tried ≤ after.tried
  pub most : after.tried ≤ before.tried + count
  pub moved : after.position + before.tried ≡ before.position + after.tried

-- ---- one scenario

pub record LaneReady (k total first rounds : ℕ) (before : Progress) (list : List ℕ) : Type 0 where
  pub scenarios : total ≡ 3 ^ k
  pub kept : Kept total before list
  pub compared : first ≤ before.found
  pub room : before.tried + 1 < 4294967296
  pub cost : rounds ≤ 1026

-- The step of every problem in which the scenario at the position is as said. The entries found before stay.
pub record LaneTried (k total first : ℕ) (new : Bool) (rounds : ℕ) (before : Progress) (list : List ℕ) (after : Progress) (left : List ℕ)
    : Type 0 where
  pub advance : Advance total 1 before list after left
  pub grown : before.found ≤ after.found
  pub same : (n : ℕ) → n ≤ before.found → take n left ≡ take n list
  pub is :
      (P : Problem)
      → P.abducibles ≡ k
      → new_to P (take first list) before.position ≡ new
      → P.rounds before.position ≡ rounds
      → step P (work_of before list) ≡ work_of after left

-- ---- up to 64 scenarios

pub record LanesReady (k total : ℕ) (rounds : List ℕ) (count : ℕ) (before : Progress) (list : List ℕ) : Type 0 where
  pub scenarios : total ≡ 3 ^ k
  pub kept : Kept total before list
  pub lanes : count ≤ 64
  pub room : before.tried + count < 4294967296
  pub cost : (l : ℕ) → l < 64 → get_or rounds l 0 ≤ 1026

-- The scenarios from p on, each in its lane: which are explanations, and how many rounds each takes.
pub record InLanes (P : Problem) (k p explained : ℕ) (rounds : List ℕ) : Type 0 where
  pub abducibles : P.abducibles ≡ k
  pub explains : (l : ℕ) → l < 64 → lane_bit l explained ≡ P.explains (p + l)
  pub costs : (l : ℕ) → l < 64 → get_or rounds l 0 ≡ P.rounds (p + l)

-- The steps of every problem whose scenarios are in the lanes.
pub record LanesTried (k total explained : ℕ) (rounds : List ℕ) (count : ℕ) (before : Progress) (list : List ℕ) (after : Progress) (left : List ℕ)
    : Type 0 where
  pub advance : Advance total count before list after left
  pub is : (P : Problem) → InLanes P k before.position explained rounds → steps P count (work_of before list) ≡ work_of after left

-- ---- any number of steps of one problem

-- How many scenarios come next: up to `most`, as many as may still be tried and are there.
pub record Batch (most tried allowance position total size : ℕ) : Type 0 where
  pub few : size ≤ most
  pub allowed : tried + size ≤ allowance
  pub there : position + size ≤ total
  pub none : size ≡ 0 → (tried ≡ allowance) ⊎ (position ≡ total)

pub record Tried (P : Problem) (total count : ℕ) (before : Progress) (list : List ℕ) (after : Progress) (left : List ℕ) : Type 0 where
  pub advance : Advance total count before list after left
  pub is : steps P count (work_of before list) ≡ work_of after left
