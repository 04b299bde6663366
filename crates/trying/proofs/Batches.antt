-- Steps in batches: how one goes on from another, and where further steps change nothing.
-- Assumes nothing.
use mathlib.Core.Path.{◌≡◌, refl, ap, subst, ◌∙◌}
use mathlib.Core.List.{List}
use mathlib.Core.Logic.{◌⊎◌, inl, inr}
use Prim.Native.Nat.{ℕ, ◌+◌, ◌-◌, ◌<◌, ◌≤◌}
use native.Mathlib.Omega.{arith}
use Rattle.stepping.specs.declared.Progress.{Progress}
use Rattle.steps.specs.Explanations.{Problem, scenarios}
use Rattle.steps.specs.Continuing.{steps}
use Rattle.stepping.specs.Stepping.{work_of, Kept, LanesTried, InLanes, Tried}
use Rattle.steps.proofs.Steps.{step_end}
use Rattle.steps.proofs.Runs.{steps_zero, steps_add, steps_still, steps_short}

-- The lanes of a problem's scenarios.
pub tried_lanes : {P : Problem} {k total explained : ℕ} {rounds : List ℕ} {count : ℕ} {s : Progress} {l : List ℕ} {s' : Progress} {l' : List ℕ}
    → LanesTried k total explained rounds count s l s' l' → InLanes P k s.position explained rounds → Tried P total count s l s' l'
tried_lanes {P} t i = record { advance = t.advance; is = t.is P i }

module _ {P : Problem} {total : ℕ} {s₀ : Progress} {l₀ : List ℕ} where
  pub tried_none : {n : ℕ} → n ≡ 0 → Kept total s₀ l₀ → Tried P total n s₀ l₀ s₀ l₀
  tried_none {n} e h = record {
    advance = record { kept = h; size = refl; least = omega arith; most = omega arith; moved = omega arith };
    is = ap (λ (x : ℕ). steps P x (work_of s₀ l₀)) e ∙ steps_zero P (work_of s₀ l₀);
  }

  module _ {m : ℕ} {s : Progress} {l : List ℕ} (so_far : Tried P total m s₀ l₀ s l) where
    -- More steps from there.
    pub tried_then : {b n : ℕ} {s' : Progress} {l' : List ℕ} → n ≡ m + b → Tried P total b s l s' l' → Tried P total n s₀ l₀ s' l'
    tried_then {b} {n} e t =
        let x = so_far.advance in
        let y = t.advance in
        record {
          advance = record { kept = y.kept; size = y.size ∙ x.size; least = omega arith; most = omega arith; moved = omega arith };
          is =
              ap (λ (i : ℕ). steps P i (work_of s₀ l₀)) e ∙ steps_add P m b (work_of s₀ l₀) ∙ ap (steps P b) so_far.is ∙ t.is;
        }

    -- Where one of the steps stood still, so do all further ones.
    pub tried_short : {n : ℕ} → m ≤ n → s.tried < s₀.tried + m → Tried P total n s₀ l₀ s l
    tried_short {n} more few =
        let x = so_far.advance in
        let e = so_far.is in
        record {
          advance = record { kept = x.kept; size = x.size; least = x.least; most = omega arith; moved = x.moved };
          is = steps_short P m n (work_of s₀ l₀) more (rw e few) ∙ e;
        }

    -- No more were allowed, or none is left: at 3^k all steps stand still.
    pub tried_done : {n : ℕ} → total ≡ scenarios P → m ≤ n → (m ≡ n) ⊎ (s.position ≡ total) → Tried P total n s₀ l₀ s l
    tried_done {n} all more (inl e) = subst (λ (x : ℕ). Tried P total x s₀ l₀ s l) e so_far
    tried_done {n} all more (inr e) =
        let x = so_far.advance in
        let split : n ≡ m + (n - m) = omega arith in
        record {
          advance = record { kept = x.kept; size = x.size; least = x.least; most = omega arith; moved = x.moved };
          is =
              ap (λ (i : ℕ). steps P i (work_of s₀ l₀)) split ∙ steps_add P m (n - m) (work_of s₀ l₀) ∙ ap (steps P (n - m)) so_far.is
              ∙ steps_still P (n - m) (work_of s l) (step_end P s.position s.found l s.tried s.rounds (e ∙ all));
        }
