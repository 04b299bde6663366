-- One call: the record and the list, the single step, and what continuing reports.
use Rattle.std.specs.Prelude.{◌≡◌, Bool, true, false, not, cond, List, [], ◌∷◌, ◌++◌, length, take, set}
use Rattle.std.specs.Prelude.{ℕ, zero, suc, ◌+◌, ◌-◌, ◌<◌, ◌≤◌, eqb, ltb, leb}
use Rattle.papers.specs.Tests.{◌and◌, ◌or◌}
use Rattle.steps.specs.declared.State.{State}
use Rattle.steps.specs.declared.State.TheVariants.{Ended, Full, Going}
use Rattle.steps.specs.Explanations.{Problem, scenarios, part_of}
-- The record of a search, as the code declares it: its next scenario, and how many of the list's entries are found ones.
pub use Rattle.steps.specs.declared.Record.{Record}

-- "Fresh record: position 0, found 0."
abbrev pub fresh : Record
fresh = record { position = 0; found = 0 }

-- A scenario contains the assumptions of some entry.
unfoldable pub contains_one : ℕ → List ℕ → ℕ → Bool
contains_one k [] p = false
contains_one k (entry ∷ more) p = part_of k entry p or contains_one k more p

-- "Minimal means an explanation containing no listed entry's assumptions." From a fresh search this is `minimal`.
unfoldable pub new_to : Problem → List ℕ → ℕ → Bool
new_to P entries p = P.explains p and not (contains_one P.abducibles entries p)

-- What a step does: it stands still, only tries its scenario, or writes it to the list too.
pub data Move : Type 0 where
  stands tries writes : Move

-- It stands still at 3^k, and where a new explanation "finds the list full".
unfoldable pub move : Problem → ℕ → ℕ → List ℕ → Move
move P p found list =
    let new = new_to P (take found list) p in
    cond (eqb p (scenarios P)) stands (cond new (cond (ltb found (length list)) writes stands) tries)

-- A search in the course of a call: its record and its list, and how many scenarios the call has tried, in how many rounds.
pub record Work : Type 0 where
  pub position : ℕ
  pub found : ℕ
  pub list : List ℕ
  pub tried : ℕ
  pub rounds : ℕ

abbrev pub work : ℕ → ℕ → List ℕ → ℕ → ℕ → Work
work p found list t r = record { position = p; found = found; list = list; tried = t; rounds = r }

-- One step: it tries one scenario or stands still. "Listed entries" are the first `found`, "including those this call adds".
-- "Scenarios looked at but not tried add no rounds."
unfoldable pub step : Problem → Work → Work
step P s = elim (move P s.position s.found s.list) [
  | stands ↦ s
  | tries ↦ work (s.position + 1) s.found s.list (s.tried + 1) (s.rounds + P.rounds s.position)
  | writes ↦ work (s.position + 1) (s.found + 1) (set s.list s.found s.position) (s.tried + 1) (s.rounds + P.rounds s.position)
]

unfoldable pub steps : Problem → ℕ → Work → Work
steps P zero s = s
steps P (suc w) s = steps P w (step P s)

-- "Ended: position is 3^k. Full: not ended and tried is below w. Else going." Here 3^k is `total`.
unfoldable pub state_by : ℕ → ℕ → ℕ → ℕ → State
state_by total w position tried = cond (eqb position total) Ended (cond (ltb tried w) Full Going)

abbrev pub state_of : Problem → ℕ → Work → State
state_of P w s = state_by (scenarios P) w s.position s.tried

-- "Reports the new record (position p plus tried), tried, rounds (in 64 bits, the round counts of the scenarios tried added up) and
-- the state: ended, full or going." `list` is the lent list afterwards.
pub record Report : Type 0 where
  pub new : Record
  pub list : List ℕ
  pub tried : ℕ
  pub rounds : ℕ
  pub state : State

abbrev pub record_of : Work → Record
record_of s = record { position = s.position; found = s.found }

abbrev pub report_of : Problem → ℕ → Work → Report
report_of P w s = record {
  new = record_of s;
  list = s.list;
  tried = s.tried;
  rounds = s.rounds;
  state = state_of P w s;
}

-- A call begins with nothing tried.
abbrev pub begun : Record → List ℕ → Work
begun r list = work r.position r.found list 0 0

-- "Continue with allowance w" is w steps.
unfoldable pub continue : Problem → ℕ → Record → List ℕ → Report
continue P w r list = report_of P w (steps P w (begun r list))

-- The stopping point: where steps come to stand still, for which 3^k - p of them are enough. It is the one number that is `FirstFull`, and
-- from a fresh search it is `stop`.
unfoldable pub stop_from : Problem → Record → List ℕ → ℕ
stop_from P r list = (steps P (scenarios P - r.position) (begun r list)).position

-- ---- the stopping point by its own words

-- "Listed entries including those this call adds": those listed once the d scenarios from p on are looked at, each beside those before it.
unfoldable pub listed_after : Problem → List ℕ → ℕ → ℕ → List ℕ
listed_after P entries p zero = entries
listed_after P entries p (suc d) =
    let listed = listed_after P entries p d in
    listed ++ cond (new_to P listed (p + d)) ((p + d) ∷ []) []

abbrev pub listed_at : Problem → Record → List ℕ → ℕ → List ℕ
listed_at P r list q = listed_after P (take r.found list) r.position (q - r.position)

-- Scenario q is "an explanation containing no listed entry's assumptions", and it "finds the list full".
unfoldable pub finds_full : Problem → Record → List ℕ → ℕ → Bool
finds_full P r list q = new_to P (listed_at P r list q) q and leb (length list) (length (listed_at P r list q))

-- "The stopping point is the first such scenario at or after p that finds the list full, else 3^k."
pub record FirstFull (P : Problem) (r : Record) (list : List ℕ) (stop : ℕ) : Type 0 where
  pub least : r.position ≤ stop
  pub most : stop ≤ scenarios P
  pub before : (q : ℕ) → r.position ≤ q → q < stop → finds_full P r list q ≡ false
  pub there : stop < scenarios P → finds_full P r list stop ≡ true
