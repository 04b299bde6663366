-- Scenarios that are passed over: steps that only count.
-- Assumes nothing.
use mathlib.Core.Path.{◌≡◌, refl, ap, ap₂, ◌∙◌}
use mathlib.Core.Bool.{false}
use mathlib.Core.List.{List}
use Prim.Native.Nat.{ℕ, zero, suc, ◌+◌, ◌<◌, ◌≤◌}
use native.Mathlib.Decide.{dec_lt}
use native.Mathlib.Omega.{arith}
use borrow.Author.Tests.{eq-eqb, ne_eqb}
use Rattle.papers.specs.Tests.{◌and◌}
use Rattle.steps.specs.Explanations.{Problem, scenarios}
use Rattle.steps.specs.Continuing.{new_to, work, step, steps}
use Rattle.steps.proofs.Steps.{move_tries, step_tries}
use Rattle.steps.proofs.Runs.{steps_zero, steps_last}
use Rattle.stepping.specs.declared.Progress.{Progress}
use Rattle.stepping.specs.Stepping.{Kept, Tried}
use Rattle.held.specs.declared.Masks.{Masks}
use Rattle.held.specs.HeldProblem.{held_problem}
use Rattle.held.proofs.HeldLaws.{held_other}
use Rattle.agreeing.specs.DisagreeingRuns.{DisagreeingRun}
use Rattle.trying.specs.Trying.{span_of, passed_over}

-- No explanation and no round, from p on.
pub record Idle (P : Problem) (p count : ℕ) : Type 0 where
  pub unexplained : (i : ℕ) → i < count → P.explains (p + i) ≡ false
  pub free : (i : ℕ) → i < count → P.rounds (p + i) ≡ 0

module _ (P : Problem) where
  idle_step : (p f : ℕ) (l : List ℕ) (t r : ℕ) → p < scenarios P → P.explains p ≡ false → P.rounds p ≡ 0
      → step P (work p f l t r) ≡ work (p + 1) f l (t + 1) r
  unfolding new_to ◌and◌
  idle_step p f l t r h e z =
      let same : r + P.rounds p ≡ r = omega (arith, z) in
      step_tries P p f l t r (move_tries P p f l (λ q. omega arith) (rw e)) ∙ ap (work (p + 1) f l (t + 1)) same

  idle_steps : (n p f : ℕ) (l : List ℕ) (t r : ℕ) → Idle P p n → p + n ≤ scenarios P → steps P n (work p f l t r) ≡ work (p + n) f l (t + n) r
  idle_steps zero p f l t r idle h =
      let at : p ≡ p + 0 = omega arith in
      let counted : t ≡ t + 0 = omega arith in
      steps_zero P (work p f l t r) ∙ ap₂ (λ (x y : ℕ). work x f l y r) at counted
  idle_steps (suc n) p f l t r idle h =
      let before : Idle P p n = record { unexplained = λ i k. idle.unexplained i (omega arith); free = λ i k. idle.free i (omega arith) } in
      let at : p + n + 1 ≡ p + suc n = omega arith in
      let counted : t + n + 1 ≡ t + suc n = omega arith in
      steps_last P n (work p f l t r)
      ∙ ap (step P) (idle_steps n p f l t r before (omega arith))
      ∙ idle_step (p + n) f l (t + n) r (omega arith) (idle.unexplained n (omega arith)) (idle.free n (omega arith))
      ∙ ap₂ (λ (x y : ℕ). work x f l y r) at counted

-- As the code passes over them.
pub passed_tried : {P : Problem} {total count : ℕ} {s : Progress} {l : List ℕ} → total ≡ scenarios P → Kept total s l → Idle P s.position count
    → s.position + count ≤ total → Tried P total count s l (passed_over count s) l
passed_tried {P} {total} {count} {s} {l} all kept idle there =
    let cost = kept.cost in
    let few = kept.few in
    record {
      advance = record {
        kept = record { within = there; held = kept.held; few = omega arith; cost = omega arith };
        size = refl;
        least = omega arith;
        most = omega arith;
        moved = omega arith;
      };
      is = idle_steps P count s.position s.found l s.tried s.rounds idle (omega arith);
    }

-- ---- how many come next

-- Of a run, and where it is empty.
pub span_run : (run : ℕ) → 0 < run → span_of run ≡ run
span_run run h = rw (ne_eqb run 0 (λ e. omega arith))

pub span_none : (run : ℕ) → run ≤ 0 → span_of run ≡ 64
span_none run h = rw (eq-eqb run 0 (omega arith))

pub span_some : (run : ℕ) → 0 < span_of run
span_some run = elim (dec_lt 0 run) [
  | yes h ↦ omega (arith, span_run run h)
  | no h ↦ omega (arith, span_none run (omega arith))
]

-- Of a search with held faults.
pub idle_run : (P : Problem) (m : Masks) (p run count : ℕ) → DisagreeingRun P.abducibles m p run → count ≤ run → Idle (held_problem P m) p count
idle_run P m p run count passing few = record {
  unexplained = λ i h. (held_other P m (p + i) (passing.none i (omega arith))).0;
  free = λ i h. (held_other P m (p + i) (passing.none i (omega arith))).1;
}
