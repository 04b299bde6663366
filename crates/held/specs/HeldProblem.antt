-- The problem of a search with held faults.
use Rattle.std.specs.Prelude.{Bool, cond, ℕ}
use Rattle.papers.specs.Tests.{◌and◌}
use Rattle.steps.specs.Explanations.{Problem}
use Rattle.held.specs.Masks.{Masks, agrees}

-- A scenario that does not agree "is no explanation of that search",
unfoldable pub held_explains : Problem → Masks → ℕ → Bool
held_explains P m s = agrees P.abducibles m s and P.explains s

-- and "counts as tried with zero rounds".
unfoldable pub held_rounds : Problem → Masks → ℕ → ℕ
held_rounds P m s = let cost = P.rounds s in cond (agrees P.abducibles m s) cost 0

-- "The stopping point and the completeness of the list read explanations this way, and demand 3's total of rounds takes such a
-- scenario's as zero": what is defined over a problem is read of this one.
abbrev pub held_problem : Problem → Masks → Problem
held_problem P m = record { abducibles = P.abducibles; explains = held_explains P m; rounds = held_rounds P m }
