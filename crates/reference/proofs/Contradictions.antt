-- The contradiction without its integrity rule: d is both true and false where a is assumed, and so that scenario is no explanation.
-- Assumes nothing.
use mathlib.Core.Path.{◌≡◌, refl}
use mathlib.Core.Bool.{true, false}
use mathlib.Core.List.{[], ◌∷◌}
use Rattle.model.specs.Model.{model_bytes, rounds, explains}
use Rattle.steps.specs.Continuing.{fresh, continue}
use Rattle.trying.specs.Trying.{problem_of}
use Rattle.reference.specs.Programs.{contradiction_allowed, query_d, allowed}
use Rattle.reference.specs.ComputingCalls.{computing}
use Rattle.reference.proofs.Searches.{Read, whole}

pub allowed_read : Read allowed
unfolding computing
allowed_read = refl

-- In scenario 1, a is assumed: d and -d are both, and falsum is false.
pub allowed_model : model_bytes contradiction_allowed 1 ≡ 1 ∷ 2 ∷ 3 ∷ 3 ∷ 2 ∷ []
unfolding computing
allowed_model = refl

pub allowed_rounds : rounds contradiction_allowed 1 ≡ 2
unfolding computing
allowed_rounds = refl

pub allowed_none : explains contradiction_allowed query_d 1 ≡ false
unfolding computing
allowed_none = refl

-- Nor is it one where the query does not touch d, or is empty. With the empty query 0 is one, in which a is open.
pub allowed_untouched : explains contradiction_allowed (0 ∷ []) 1 ≡ false
unfolding computing
allowed_untouched = refl

pub allowed_unasked : explains contradiction_allowed [] 1 ≡ false
unfolding computing
allowed_unasked = refl

pub allowed_open : explains contradiction_allowed [] 0 ≡ true
unfolding computing
allowed_open = refl

-- The whole search finds nothing, and the rounds of scenario 1 count among its 5.
pub allowed_found : continue (problem_of allowed) 9 fresh (0 ∷ 0 ∷ []) ≡ whole 3 0 (0 ∷ 0 ∷ []) 5
unfolding computing
allowed_found = refl
