-- The constant u: it never holds and never fails, and stands in bodies alone.
-- Assumes nothing.
use mathlib.Core.Path.{◌≡◌, refl}
use mathlib.Core.List.{[], ◌∷◌, map}
use native.Mathlib.Omega.{arith}
use Rattle.papers.specs.declared.Paper.TheVariants.{File, Sheet}
use Rattle.papers.specs.Outcome.{accepted, refused, refusal}
use Rattle.papers.specs.Reading.{read_file, read_sheet}
use Rattle.papers.specs.Encoding.{encode_file, encode_sheet}
use Rattle.dual.specs.Table.{dual}
use Rattle.dual.specs.TableEncoding.{encode_dual, read_fields}
use Rattle.dual.proofs.ReadBack.{fields_back}
use Rattle.model.specs.Model.{model, model_bytes}
use Rattle.steps.specs.Continuing.{fresh, continue}
use Rattle.trying.specs.Trying.{problem_of}
use Rattle.reference.specs.Programs.{u, unsettled, unsettled_dual, self_denied, besides_false, denied_by_u, one_rule}
use Rattle.reference.specs.ComputingCalls.{computing}
use Rattle.reference.proofs.Searches.{Read, whole}

-- ---- p :- u

pub unsettled_accepted : read_file (encode_file unsettled) ≡ accepted unsettled
unfolding computing
unsettled_accepted = refl

-- p is undefined; -p and falsum, which have no rule, are false.
pub unsettled_model : model_bytes unsettled 0 ≡ 0 ∷ 2 ∷ 2 ∷ []
unfolding computing
unsettled_model = refl

-- Its dual lists u, and p, whose body is not empty, keeps its 08 field.
pub unsettled_dual_lem : encode_dual (dual unsettled) ≡ unsettled_dual
unfolding computing
unsettled_dual_lem = refl

pub unsettled_back : read_fields 5 unsettled_dual ≡ dual unsettled
unfolding computing
unsettled_back = rw (← unsettled_dual_lem) (fields_back (dual unsettled) 5 (omega arith))

-- p :- not p comes to the same.
pub self_denied_same : model self_denied 0 ≡ model unsettled 0
unfolding computing
self_denied_same = refl

-- ---- p :- u, q

-- q is false, and so is p.
pub besides_false_model : model_bytes besides_false 0 ≡ 2 ∷ 2 ∷ 2 ∷ 2 ∷ 2 ∷ []
unfolding computing
besides_false_model = refl

-- ---- falsum :- u

pub denied_read : Read denied_by_u
unfolding computing
denied_read = refl

-- Falsum, the last, is undefined in every scenario,
pub denied_models : map (model_bytes denied_by_u.program) (0 ∷ 1 ∷ 2 ∷ []) ≡ (0 ∷ 0 ∷ 0 ∷ []) ∷ (1 ∷ 2 ∷ 0 ∷ []) ∷ (2 ∷ 1 ∷ 0 ∷ []) ∷ []
unfolding computing
denied_models = refl

-- so that none is an explanation.
pub denied_found : continue (problem_of denied_by_u) 9 fresh (0 ∷ 0 ∷ []) ≡ whole 3 0 (0 ∷ 0 ∷ []) 2
unfolding computing
denied_found = refl

-- ---- elsewhere

pub head_refused : read_file (encode_file (one_rule u [])) ≡ refused (refusal 6 File 12)
unfolding computing
head_refused = refl

pub sheet_refused : read_sheet 1 (encode_sheet (u ∷ [])) ≡ refused (refusal 6 Sheet 0)
unfolding computing
sheet_refused = refl

-- FFFE is no literal anywhere.
pub below_u_refused : read_file (encode_file (one_rule 0 (0xFFFE ∷ []))) ≡ refused (refusal 6 File 12)
unfolding computing
below_u_refused = refl
