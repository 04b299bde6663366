-- A call over a record that passes test 14: how it begins, and what it reports.
-- Assumes nothing.
use mathlib.Core.Path.{◌≡◌, sym, ap, ◌∙◌}
use mathlib.Core.Bool.{false}
use mathlib.Core.List.{List}
use Prim.Native.Nat.{ℕ}
use native.Mathlib.Omega.{arith}
use Rattle.stepping.specs.declared.Progress.{Progress}
use Rattle.steps.specs.Explanations.{Problem, scenarios}
use Rattle.steps.specs.declared.Record.{Record}
use Rattle.steps.specs.Continuing.{Work, steps, begun, report_of, continue}
use Rattle.steps.specs.Spoilt.{spoilt_by}
use Rattle.stepping.specs.Stepping.{work_of, Kept}
use Rattle.held.specs.declared.Masks.{Masks}
use Rattle.trying.specs.Trying.{told_report, report_by, untried}
use Rattle.steps.proofs.Sound.{unspoilt_bounded}

module _ (P : Problem) {total : ℕ} (all : total ≡ scenarios P) (from : Record) (list : List ℕ) where
  pub unspoilt_kept : spoilt_by total from list ≡ false → Kept total (untried from) list
  unspoilt_kept e =
      let b = unspoilt_bounded P from list (ap (λ (n : ℕ). spoilt_by n from list) (sym all) ∙ e) in
      record { within = omega arith; held = b.held; few = b.few; cost = omega arith }

  module _ (w : ℕ) (m : Masks) {s : Progress} {left : List ℕ} (ran : steps P w (begun from list) ≡ work_of s left) where
    pub call_told : report_by total w m s ≡ told_report m (continue P w from list)
    unfolding continue
    call_told = ap (λ (n : ℕ). report_by n w m s) all ∙ sym (ap (λ (x : Work). told_report m (report_of P w x)) ran)

    pub call_list : left ≡ (continue P w from list).list
    unfolding continue
    call_list = sym (ap (λ (x : Work). x.list) ran)
