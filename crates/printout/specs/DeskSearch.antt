-- The calls of the desk program: "allowance 4,096 until ended or full".
use Rattle.std.specs.Prelude.{◌≡◌, Bool, true, false, cond, List, ℕ, ◌+◌, ◌-◌, ◌≤◌, min, eqb, length, take}
use Rattle.papers.specs.declared.Contents.{Contents}
use Rattle.papers.specs.Outcome.{Outcome, accepted, refused}
use Rattle.papers.specs.Reading.{Papers, read_papers}
use Rattle.papers.specs.Answers.{contents_of}
use Rattle.steps.specs.declared.State.{State}
use Rattle.steps.specs.declared.State.TheVariants.{Going, Full, Ended}
use Rattle.steps.specs.Explanations.{Problem, scenarios, minimals, stop, sum_below}
use Rattle.steps.specs.Continuing.{state_by}
use Rattle.held.specs.Masks.{masks}
use Rattle.trying.specs.Trying.{problem_of}
use Rattle.printout.specs.declared.searching.Progress.{Progress}

-- Both papers are accepted.
pub record Accepted (read : Outcome Papers) : Type 0 where
  pub papers : Papers
  pub is : read ≡ accepted papers

-- And the file has these counts and places.
pub record AcceptedAs (read : Outcome Papers) (contents : Contents) : Type 0 where
  pub papers : Papers
  pub is : read ≡ accepted papers
  pub told : contents_of papers.program ≡ contents

-- The problem of accepted papers. That of refused ones is of no use: no abducible and no explanation.
unfoldable pub problem_for : Outcome Papers → Problem
problem_for (accepted q) = problem_of q
problem_for (refused r) = record { abducibles = 0; explains = λ s. false; rounds = λ s. 0 }

abbrev pub problem_on : List ℕ → List ℕ → Problem
problem_on file sheet = problem_for (read_papers file sheet)

unfoldable pub is_going : State → Bool
is_going Going = true
is_going Full = false
is_going Ended = false

-- Between two calls: the found entries are the minimal explanations below the position, the sums those of the scenarios below it.
pub record Stands (P : Problem) (list : List ℕ) (s : Progress) : Type 0 where
  pub within : s.reached.at.position ≤ stop P (length list)
  pub found : s.reached.at.found ≡ length (minimals P s.reached.at.position)
  pub entries : take s.reached.at.found list ≡ minimals P s.reached.at.position
  pub tried : s.tried ≡ s.reached.at.position
  pub rounds : s.rounds ≡ sum_below s.reached.at.position P.rounds
  -- The desk program holds no fault.
  pub none : s.reached.held ≡ masks 0 0

-- One call on, with a list of length L.
pub record GoneOn (P : Problem) (L : ℕ) (before after : Progress) : Type 0 where
  pub position : after.reached.at.position ≡ min (stop P L) (before.reached.at.position + 4096)
  pub state : after.state ≡ state_by (scenarios P) 4096 after.reached.at.position (after.reached.at.position - before.reached.at.position)

-- The state at the stopping point: "ended: position is 3^k", else full.
unfoldable pub last_state : Problem → ℕ → State
last_state P L = cond (eqb (stop P L) (scenarios P)) Ended Full

-- Ended or full.
pub record Finished (P : Problem) (L : ℕ) (s : Progress) : Type 0 where
  pub position : s.reached.at.position ≡ stop P L
  pub state : s.state ≡ last_state P L
