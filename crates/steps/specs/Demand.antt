-- Demand 3, "a single claim about the list of continue calls".
use Rattle.std.specs.Prelude.{◌≡◌, Bool, true, false, List, map, ℕ, ◌*◌, ◌<◌, ◌≤◌, min, length, take, drop}
use Rattle.papers.specs.Valid.{All}
use Rattle.steps.specs.Explanations.{Problem, scenarios, minimals, stop, sum_below}
use Rattle.steps.specs.declared.State.TheVariants.{Ended, Full}
use Rattle.steps.specs.Continuing.{Report, fresh}
use Rattle.steps.specs.Spoilt.{spoilt}
use Rattle.steps.specs.Calls.{Call, Answer, refusal, report, Called, calls, tried_by, rounds_by, allowances, unrefused, reports}

-- A report of ended or full is made at the stopping point.
pub record Honest (stop : ℕ) (x : Report) : Type 0 where
  pub ended : x.state ≡ Ended → x.new.position ≡ stop
  pub full : x.state ≡ Full → x.new.position ≡ stop

unfoldable pub is_refused : Call → Bool
is_refused c = c.refused

unfoldable pub is_refusal : Answer → Bool
is_refusal refusal = true
is_refusal (report x) = false

-- What demand 3 says of the calls `cs` over a lent list that held `l` at the start, where `c` is what they leave and answer.
pub record Demand (P : Problem) (l : List ℕ) (cs : List Call) (c : Called) : Type 0 where
  -- The found entries, "the first of the lent list, as many as the record's found says", are the minimal explanations below the
  -- position: each once, rising, none lost and none added.
  pub entries : take c.last.found c.list ≡ minimals P c.last.position
  pub found : c.last.found ≡ length (minimals P c.last.position)
  -- "Those beyond them are afterwards as they were at the start", and the list is as long.
  pub beyond : drop c.last.found c.list ≡ drop c.last.found l
  pub size : length c.list ≡ length l
  -- The position is where the allowances of the calls that were not refused lead, and at most the stopping point.
  pub position : c.last.position ≡ min (stop P (length l)) (allowances cs)
  pub tried : tried_by c.answers ≡ c.last.position
  -- The rounds are those of the scenarios below the position, and with them bounded.
  pub rounds : rounds_by c.answers ≡ sum_below c.last.position P.rounds
  pub bound : (b : ℕ) → ((s : ℕ) → s < scenarios P → P.rounds s ≤ b) → rounds_by c.answers ≤ b * c.last.position
  -- No call reports ended or full short of the stopping point.
  pub honest : All (Honest (stop P (length l))) (reports c.answers)
  -- The record passes test 14, so that the calls refused are those refused for a reason of their own.
  pub sound : spoilt P c.last c.list ≡ false
  pub refused : map is_refusal c.answers ≡ map is_refused cs
  -- "A refused call adds nothing to the sums and passes its record on unchanged": record, list and reports are those of the other
  -- calls made alone.
  pub unchanged : c.last ≡ (calls P (unrefused cs) fresh l).last
  pub untouched : c.list ≡ (calls P (unrefused cs) fresh l).list
  pub unadded : reports c.answers ≡ reports (calls P (unrefused cs) fresh l).answers
