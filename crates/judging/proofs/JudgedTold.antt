-- What is told of a judgement fixes the answer: it is found again from that.
-- Assumes nothing.
use mathlib.Core.Path.{◌≡◌, refl, ap}
use mathlib.Core.Bool.{cond}
use Prim.Native.Nat.{ℕ}
use lib.Dec.{eqb}
use Rattle.std.specs.Prelude.{Ok, Err}
use Rattle.std.specs.declared.result.Result.{Result}
use Rattle.papers.specs.declared.Fault.{Fault}
use Rattle.papers.specs.declared.Bare.TheVariants as bare
use Rattle.papers.specs.Told.{Told, tells, refused_by, refused_at, bare_number, bare_told, refusal_told}
use Rattle.papers.proofs.ToldLaws.{told_fixes, refused_with, fault_from_lem}
use Rattle.valuation.specs.declared.Verdict as valuation
use Rattle.judging.specs.declared.JudgeError.{JudgeError}
use Rattle.judging.specs.declared.JudgeError.TheVariants as error
use Rattle.judging.specs.Judging.{Verdict, judged_told}

-- Judging is refused under 11, 12 and 13 of those that name no paper.
abbrev judged_bare : ℕ → JudgeError
judged_bare n =
    cond (eqb n (bare_number bare.ShortDual)) error.ShortDual
    (cond (eqb n (bare_number bare.ShortModel)) error.ShortModel error.NoScenario)

abbrev pub judged_from : Told Verdict → Result valuation.Verdict JudgeError
judged_from (tells v) = Ok (record { explains = v.explains; rounds = v.rounds })
judged_from (refused_by n) = Err (judged_bare n)
judged_from (refused_at n paper place) = Err (error.Refused (refused_with n paper place))

pub judged_from_lem : (r : Result valuation.Verdict JudgeError) → judged_from (judged_told r) ≡ r
unfolding judged_told bare_told refusal_told
judged_from_lem (Ok v) = refl
judged_from_lem (Err error.ShortDual) = refl
judged_from_lem (Err error.ShortModel) = refl
judged_from_lem (Err error.NoScenario) = refl
judged_from_lem (Err (error.Refused r)) =
    ap (λ (f : Fault). Err (error.Refused (record { fault = f; paper = r.paper; place = r.place }))) (fault_from_lem r.fault)

pub judged_fixed : {r s : Result valuation.Verdict JudgeError} → judged_told r ≡ judged_told s → r ≡ s
judged_fixed = told_fixes judged_told judged_from judged_from_lem
