-- A list of continue calls, "of any length, the empty one included", each given the record and the list as the call before left them.
use Rattle.std.specs.Prelude.{Bool, true, false, cond, List, [], ◌∷◌, ℕ, ◌+◌}
use Rattle.papers.specs.Tests.{◌or◌}
use Rattle.steps.specs.Explanations.{Problem}
use Rattle.steps.specs.Continuing.{Record, Report, continue}
use Rattle.steps.specs.Spoilt.{spoilt}

-- "Allowance and dual buffer are each call's own": of the dual buffer, whether it is too short, so that the call is refused (11).
pub record Call : Type 0 where
  pub allowance : ℕ
  pub refused : Bool

pub data Answer : Type 0 where
  refusal : Answer
  report : Report → Answer

-- A call is refused for a reason of its own or by test 14, and else continues.
unfoldable pub answer : Problem → Call → Record → List ℕ → Answer
answer P c r list = elim (c.refused or spoilt P r list) [
  | true ↦ refusal
  | false ↦ report (continue P c.allowance r list)
]

-- The record and the list after a call: "a refused call .. passes its record on unchanged".
abbrev pub record_after : Record → Answer → Record
record_after r refusal = r
record_after r (report x) = x.new

abbrev pub list_after : List ℕ → Answer → List ℕ
list_after list refusal = list
list_after list (report x) = x.list

-- What a list of calls leaves, and the answer of each.
pub record Called : Type 0 where
  pub last : Record
  pub list : List ℕ
  pub answers : List Answer

abbrev pub first : Answer → Called → Called
first a c = record { last = c.last; list = c.list; answers = a ∷ c.answers }

unfoldable pub calls : Problem → List Call → Record → List ℕ → Called
calls P [] r list = record { last = r; list = list; answers = [] }
calls P (c ∷ cs) r list =
    let a = answer P c r list in
    first a (calls P cs (record_after r a) (list_after list a))

-- "A refused call adds nothing to the sums": the tried counts of the answers added up, and the rounds.
unfoldable pub tried_by : List Answer → ℕ
tried_by [] = 0
tried_by (refusal ∷ more) = tried_by more
tried_by (report x ∷ more) = x.tried + tried_by more

unfoldable pub rounds_by : List Answer → ℕ
rounds_by [] = 0
rounds_by (refusal ∷ more) = rounds_by more
rounds_by (report x ∷ more) = x.rounds + rounds_by more

-- The allowances of the calls that are not refused, added up.
unfoldable pub allowances : List Call → ℕ
allowances [] = 0
allowances (c ∷ cs) = cond c.refused 0 c.allowance + allowances cs

-- The calls that are not refused, and the reports among the answers.
unfoldable pub unrefused : List Call → List Call
unrefused [] = []
unrefused (c ∷ cs) = cond c.refused (unrefused cs) (c ∷ unrefused cs)

unfoldable pub reports : List Answer → List Report
reports [] = []
reports (refusal ∷ more) = reports more
reports (report x ∷ more) = x ∷ reports more
