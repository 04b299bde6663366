-- Searches with held faults, each whole: Figure 1's not p4, whose minimal explanations are 1 and 3, abducibles a and b.
-- Assumes nothing.
use mathlib.Core.Path.{◌≡◌, refl}
use mathlib.Core.List.{[], ◌∷◌}
use Rattle.papers.specs.Encoding.{encode_file}
use Rattle.papers.specs.Reading.{read_file}
use Rattle.papers.specs.Told.{tells, refused_by, bare_told}
use Rattle.held.specs.declared.Masks.{Masks}
use Rattle.held.specs.Masks.{masks}
use Rattle.held.specs.HeldProblem.{held_problem}
use Rattle.held.specs.HeldCalls.{fresh_search}
use Rattle.fresh.specs.Beginning.{fresh_told}
use Rattle.steps.specs.Explanations.{stop}
use Rattle.steps.specs.Continuing.{Report, fresh, continue}
use Rattle.trying.specs.Trying.{problem_of}
use Rattle.reference.specs.Programs.{figure_p4}
use Rattle.reference.specs.ComputingCalls.{computing}
use Rattle.reference.proofs.Searches.{whole}

-- The search with these masks, all nine scenarios.
abbrev searched : Masks → Report
searched m = continue (held_problem (problem_of figure_p4) m) 9 fresh (0 ∷ 0 ∷ [])

-- It begins.
pub assumed_begins : fresh_told (read_file (encode_file figure_p4.program)) (masks 1 0) ≡ tells (fresh_search (masks 1 0))
unfolding computing
assumed_begins = refl

-- a held as assumed: 1 alone. Scenarios 1, 4 and 7 agree, and theirs are the only rounds.
pub assumed_found : searched (masks 1 0) ≡ whole 9 1 (1 ∷ 0 ∷ []) 6
unfolding computing
assumed_found = refl

-- a held as ruled out: 5, although 3 is part of it, for 3 does not agree. With no room for it, it is the stopping point.
pub ruled_found : searched (masks 0 1) ≡ whole 9 1 (5 ∷ 0 ∷ []) 5
unfolding computing
ruled_found = refl

pub ruled_stop : stop (held_problem (problem_of figure_p4) (masks 0 1)) 0 ≡ 5
unfolding computing
ruled_stop = refl

-- Both held as ruled out: nothing.
pub both_ruled_found : searched (masks 0 3) ≡ whole 9 0 (0 ∷ 0 ∷ []) 2
unfolding computing
both_ruled_found = refl

-- Masks 0b101 and 0b100 share bit 2, which is unlisted too: 15. Masks 0b101 and 0b010 share none: 16.
pub shared_refused : fresh_told (read_file (encode_file figure_p4.program)) (masks 5 4) ≡ refused_by 15
unfolding computing bare_told
shared_refused = refl

pub unlisted_refused : fresh_told (read_file (encode_file figure_p4.program)) (masks 5 2) ≡ refused_by 16
unfolding computing bare_told
unlisted_refused = refl
