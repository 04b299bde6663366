-- A call on a record that carries the masks. P is the problem of the file and the sheet.
use Rattle.std.specs.Prelude.{Bool, true, false, Result, Ok, Err, List, ℕ}
use Rattle.papers.specs.Tests.{◌or◌}
use Rattle.steps.specs.Explanations.{Problem, scenarios}
use Rattle.steps.specs.Continuing.{fresh, continue}
use Rattle.steps.specs.Spoilt.{spoilt_by}
use Rattle.steps.specs.Calls.{Call, Answer, refusal, report}
use Rattle.held.specs.declared.MaskFault.{MaskFault}
use Rattle.held.specs.Masks.{Masks, masks_tested}
use Rattle.held.specs.HeldProblem.{held_problem}
-- "The search record carries both" masks, beside its position and its found.
pub use Rattle.held.specs.declared.SearchRecord.{SearchRecord}

-- A fresh search with these masks.
abbrev pub fresh_search : Masks → SearchRecord
fresh_search m = record { at = fresh; held = m }

-- 15 or 16 would refuse the masks.
unfoldable pub unfit : Result (Unit {0}) MaskFault → Bool
unfit (Ok _) = false
unfit (Err fault) = true

-- 14, with the clauses of document 01: "test 14 also fails a record whose masks 15 or 16 would refuse". There are `total` scenarios of k
-- abducibles.
unfoldable pub spoilt_search_by : ℕ → ℕ → SearchRecord → List ℕ → Bool
spoilt_search_by k total r list = spoilt_by total r.at list or unfit (masks_tested k r.held)

abbrev pub spoilt_search : Problem → SearchRecord → List ℕ → Bool
spoilt_search P = spoilt_search_by P.abducibles (scenarios P)

-- A call is refused for a reason of its own or by test 14, and else continues the search with the held faults.
unfoldable pub held_answer : Problem → Call → SearchRecord → List ℕ → Answer
held_answer P c r list = elim (c.refused or spoilt_search P r list) [
  | true ↦ refusal
  | false ↦ report (continue (held_problem P r.held) c.allowance r.at list)
]
