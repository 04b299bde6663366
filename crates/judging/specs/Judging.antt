-- Judging: its refusals after those of the papers, what it tells in document 01's numbers, and what the lent buffers then hold.
use Rattle.std.specs.Prelude.{◌≡◌, Bool, cond, List, ℕ, ◌^◌, ltb, length, Ok, Err}
use Rattle.std.specs.declared.result.Result.{Result}
use Rattle.literals.specs.Numbering.{judged}
use Rattle.papers.specs.declared.Bare.{Bare}
use Rattle.papers.specs.declared.Bare.TheVariants as bare
use Rattle.papers.specs.Program.{Program}
use Rattle.papers.specs.Outcome.{Outcome, accepted, refused}
use Rattle.papers.specs.Reading.{Papers}
use Rattle.papers.specs.Told.{Told, tells, refusal_of, bare_told, refusal_told}
use Rattle.dual.specs.Bytes.{dual_of, filled}
use Rattle.dual_writer.specs.declared.DualError.{DualError}
use Rattle.dual_writer.specs.declared.DualError.TheVariants as dual
use Rattle.valuation.specs.declared.Verdict as valuation
use Rattle.judging.specs.declared.JudgeError.{JudgeError}
use Rattle.judging.specs.declared.JudgeError.TheVariants as error
use Rattle.model.specs.Model.{rounds, model_bytes, explains}

-- "Scenario s below 3^k."
abbrev pub scenario_count : Program → ℕ
scenario_count p = 3 ^ length p.abducibles

-- "The answer tells verdict and rounds": whether the scenario is an explanation, and the model's round count.
pub record Verdict : Type 0 where
  pub explains : Bool
  pub rounds : ℕ

abbrev pub verdict_of : Papers → ℕ → Verdict
verdict_of q s = record { explains = explains q.program q.query s; rounds = rounds q.program s }

-- What each answer tells.
unfoldable pub judged_told : Result valuation.Verdict JudgeError → Told Verdict
judged_told (Ok v) = tells (record { explains = v.explains; rounds = v.rounds })
judged_told (Err error.ShortDual) = bare_told bare.ShortDual
judged_told (Err error.ShortModel) = bare_told bare.ShortModel
judged_told (Err error.NoScenario) = bare_told bare.NoScenario
judged_told (Err (error.Refused r)) = refusal_told (refusal_of r)

-- Where the dual was not written.
abbrev pub judge_error : DualError → JudgeError
judge_error dual.Short = error.ShortDual
judge_error (dual.Refused r) = error.Refused r

-- What stands against judging accepted papers.
pub data Hindrance : Type 0 where
  hindered : Bare → Hindrance
  nothing : Hindrance

-- "Then 11, 12, 13": "lent dual buffer shorter than the dual", "lent model buffer shorter than N", "number not below 3^k".
-- `dual` and `model` are the lengths of the lent buffers.
unfoldable pub hindrance : Program → ℕ → ℕ → ℕ → Hindrance
hindrance p s dual model =
    cond (ltb dual (length (dual_of p))) (hindered bare.ShortDual)
    (cond (ltb model (judged p.atoms)) (hindered bare.ShortModel)
    (cond (ltb s (scenario_count p)) nothing (hindered bare.NoScenario)))

abbrev pub judged_by : Hindrance → Verdict → Told Verdict
judged_by (hindered by) verdict = bare_told by
judged_by nothing verdict = tells verdict

-- What judging has to tell.
unfoldable pub judge_told : Outcome Papers → ℕ → ℕ → ℕ → Told Verdict
judge_told (refused r) s dual model = refusal_told r
judge_told (accepted q) s dual model = judged_by (hindrance q.program s dual model) (verdict_of q s)

-- A lent buffer afterwards: filled from its start, "the rest staying"; "unchanged" on refusal.
abbrev pub buffer_by : Hindrance → List ℕ → List ℕ → List ℕ
buffer_by (hindered by) bytes buffer = buffer
buffer_by nothing bytes buffer = filled bytes buffer

-- "Judging and continuing leave the dual in the dual buffer."
abbrev pub dual_judged : Outcome Papers → ℕ → List ℕ → List ℕ → List ℕ
dual_judged (refused r) s dual model = dual
dual_judged (accepted q) s dual model = buffer_by (hindrance q.program s (length dual) (length model)) (dual_of q.program) dual

-- "Judging writes the first N bytes of the model buffer, the rest staying."
abbrev pub model_judged : Outcome Papers → ℕ → List ℕ → List ℕ → List ℕ
model_judged (refused r) s dual model = model
model_judged (accepted q) s dual model = buffer_by (hindrance q.program s (length dual) (length model)) (model_bytes q.program s) model

-- The answer and the two lent buffers together.
abbrev pub Judges : Outcome Papers → ℕ → List ℕ → List ℕ → Result valuation.Verdict JudgeError → List ℕ → List ℕ → Type 0
Judges read s dual model r after valued =
    (judged_told r ≡ judge_told read s (length dual) (length model))
    × ((after ≡ dual_judged read s dual model) × (valued ≡ model_judged read s dual model))
