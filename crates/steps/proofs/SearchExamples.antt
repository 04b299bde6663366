-- Small searches, computed.
-- Assumes nothing.
use mathlib.Core.Path.{◌≡◌, refl}
use mathlib.Core.Bool.{Bool, true, false}
use mathlib.Core.List.{List, [], ◌∷◌}
use Prim.Native.Nat.{ℕ, ◌+◌}
use lib.ListN.{get_or}
use Rattle.steps.specs.Explanations.{Problem, minimals, stop}
use Rattle.steps.specs.declared.State.{State}
use Rattle.steps.specs.declared.State.TheVariants.{Ended, Full, Going}
use Rattle.steps.specs.Continuing.{Record, fresh, Report, continue, stop_from}
use Rattle.steps.specs.Spoilt.{spoilt}
use Rattle.steps.specs.Calls.{Call, refusal, report, calls}
use Rattle.steps.specs.ComputingSearches.{computing}

-- Two abducibles, and the scenarios that a list says are explanations, each of as many rounds as one more than its number.
problem : List Bool → Problem
problem explanations = record { abducibles = 2; explains = λ s. get_or explanations s false; rounds = λ s. s + 1 }

at : ℕ → ℕ → Record
at position found = record { position = position; found = found }

told : ℕ → ℕ → List ℕ → ℕ → ℕ → State → Report
told position found list tried rounds state = record { new = at position found; list = list; tried = tried; rounds = rounds; state = state }

made : ℕ → Call
made allowance = record { allowance = allowance; refused = false }

short : ℕ → Call
short allowance = record { allowance = allowance; refused = true }

-- ---- 1, 4 (11 in base 3), 5 (12), 6 (20) and 8 (22) are explanations; 4 contains 1, and 8 contains 6

five : Problem
five = problem (false ∷ true ∷ false ∷ false ∷ true ∷ true ∷ true ∷ false ∷ true ∷ [])

five_minimals : minimals five 9 ≡ 1 ∷ 5 ∷ 6 ∷ []
unfolding computing five problem
five_minimals = refl

five_stops : stop five 0 ∷ stop five 1 ∷ stop five 2 ∷ stop five 3 ∷ [] ≡ 1 ∷ 5 ∷ 6 ∷ 9 ∷ []
unfolding computing five problem
five_stops = refl

-- The whole search in one call; the entry beyond those found stays.
five_whole : continue five 100 fresh (7 ∷ 7 ∷ 7 ∷ 7 ∷ []) ≡ told 9 3 (1 ∷ 5 ∷ 6 ∷ 7 ∷ []) 9 45 Ended
unfolding computing five problem at told
five_whole = refl

-- In calls, one of them refused, with room for two.
five_calls : calls five (made 3 ∷ short 50 ∷ made 50 ∷ []) fresh (7 ∷ 7 ∷ [])
    ≡ record {
      last = at 6 2;
      list = 1 ∷ 5 ∷ [];
      answers = report (told 3 1 (1 ∷ 7 ∷ []) 3 6 Going) ∷ refusal ∷ report (told 6 2 (1 ∷ 5 ∷ []) 3 15 Full) ∷ [];
    }
unfolding computing five problem at told made short
five_calls = refl

-- No call at all.
five_none : calls five [] fresh (7 ∷ []) ≡ record { last = fresh; list = 7 ∷ []; answers = [] }
unfolding computing
five_none = refl

-- Not reached from a fresh search: with 2 listed, 5 and 8 are not new, and 1 is not looked for.
five_general : continue five 100 (at 3 1) (2 ∷ 7 ∷ 7 ∷ []) ≡ told 9 3 (2 ∷ 4 ∷ 6 ∷ []) 6 39 Ended
unfolding computing five problem at told
five_general = refl

five_stop_from : stop_from five (at 3 1) (2 ∷ 7 ∷ []) ≡ 6
unfolding computing five problem at
five_stop_from = refl

-- ---- test 14

-- Position above 3^k, found above the list's length, entries that fall or stand, an entry at the position; and a sound one.
tests : List Bool
tests =
    spoilt five (at 10 0) []
    ∷ spoilt five (at 3 2) (1 ∷ [])
    ∷ spoilt five (at 9 2) (5 ∷ 1 ∷ [])
    ∷ spoilt five (at 9 2) (1 ∷ 1 ∷ [])
    ∷ spoilt five (at 5 2) (1 ∷ 5 ∷ [])
    ∷ spoilt five (at 6 2) (1 ∷ 5 ∷ 0 ∷ [])
    ∷ []

five_spoilt : tests ≡ true ∷ true ∷ true ∷ true ∷ true ∷ false ∷ []
unfolding computing tests five problem at
five_spoilt = refl

-- ---- "not p4 with L = 1: allowance 9 tries 3, full; then 5 tries 0, full; then 0 tries 0, going": the minimal ones are 1 and 3

two : Problem
two = problem (false ∷ true ∷ false ∷ true ∷ true ∷ false ∷ false ∷ false ∷ false ∷ [])

two_minimals : minimals two 9 ≡ 1 ∷ 3 ∷ []
unfolding computing two problem
two_minimals = refl

two_calls : calls two (made 9 ∷ made 5 ∷ made 0 ∷ []) fresh (7 ∷ [])
    ≡ record {
      last = at 3 1;
      list = 1 ∷ [];
      answers = report (told 3 1 (1 ∷ []) 3 6 Full) ∷ report (told 3 1 (1 ∷ []) 0 0 Full) ∷ report (told 3 1 (1 ∷ []) 0 0 Going) ∷ [];
    }
unfolding computing two problem at told made
two_calls = refl
