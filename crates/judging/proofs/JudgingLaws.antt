-- Judging from its parts: a law for each of its answers.
-- Assumes nothing.
use mathlib.Core.Path.{◌≡◌}
use mathlib.Core.List.{List}
use Prim.Native.Nat.{ℕ, ◌<◌, ◌≤◌}
use borrow.Author.Tests.{lt-ltb, le-ltb}
use lib.ListN.{length}
use Rattle.literals.specs.Numbering.{judged}
use Rattle.std.specs.Prelude.{Ok, Err}
use Rattle.papers.specs.declared.Refusal as declared
use Rattle.papers.specs.Told.{refusal_of}
use Rattle.papers.specs.Outcome.{Outcome, accepted, refused}
use Rattle.papers.specs.Reading.{Papers}
use Rattle.dual.specs.Bytes.{dual_of, filled}
use Rattle.model.specs.Model.{rounds, model_bytes, explains}
use Rattle.valuation.specs.declared.Verdict.{Verdict}
use Rattle.judging.specs.declared.JudgeError.TheVariants.{ShortDual, ShortModel, NoScenario, Refused}
use Rattle.judging.specs.Judging.{scenario_count, judged_told, hindrance, judge_told, Judges}

-- ---- the answers

-- 1 to 10.
pub judged_refused : {read : Outcome Papers} (r : declared.Refusal) → read ≡ refused (refusal_of r) → (s : ℕ) (dual model : List ℕ)
    → Judges read s dual model (Err (Refused r)) dual model
unfolding judged_told judge_told
judged_refused r e s dual model = (rw e, (rw e, rw e))

module _ (q : Papers) {read : Outcome Papers} (is : read ≡ accepted q) (s : ℕ) (dual model : List ℕ) {dual' : List ℕ} where
  -- 11.
  pub judged_short : length dual < length (dual_of q.program) → dual' ≡ dual → Judges read s dual model (Err ShortDual) dual' model
  unfolding judged_told judge_told hindrance
  judged_short h e = let x = lt-ltb (length dual) (length (dual_of q.program)) h in (rw (is, x), (rw (is, x) e, rw (is, x)))

  module _ (fits : length (dual_of q.program) ≤ length dual) where
    -- 12.
    pub judged_small : length model < judged q.program.atoms → dual' ≡ dual → Judges read s dual model (Err ShortModel) dual' model
    unfolding judged_told judge_told hindrance
    judged_small h e =
        let x = le-ltb (length dual) (length (dual_of q.program)) fits in
        let y = lt-ltb (length model) (judged q.program.atoms) h in
        (rw (is, x, y), (rw (is, x, y) e, rw (is, x, y)))

    module _ (room : judged q.program.atoms ≤ length model) where
      -- 13.
      pub judged_past : scenario_count q.program ≤ s → dual' ≡ dual → Judges read s dual model (Err NoScenario) dual' model
      unfolding judged_told judge_told hindrance
      judged_past h e =
          let x = le-ltb (length dual) (length (dual_of q.program)) fits in
          let y = le-ltb (length model) (judged q.program.atoms) room in
          let z = le-ltb s (scenario_count q.program) h in
          (rw (is, x, y, z), (rw (is, x, y, z) e, rw (is, x, y, z)))

      -- None of them.
      pub judged_done : s < scenario_count q.program → dual' ≡ filled (dual_of q.program) dual → {v : Verdict} {model' : List ℕ}
          → v.explains ≡ explains q.program q.query s → v.rounds ≡ rounds q.program s → model' ≡ filled (model_bytes q.program s) model
          → Judges read s dual model (Ok v) dual' model'
      unfolding judged_told judge_told hindrance
      judged_done h e f n m =
          let x = le-ltb (length dual) (length (dual_of q.program)) fits in
          let y = le-ltb (length model) (judged q.program.atoms) room in
          let z = lt-ltb s (scenario_count q.program) h in
          (rw (is, x, y, z, f, n), (rw (is, x, y, z) e, rw (is, x, y, z) m))
