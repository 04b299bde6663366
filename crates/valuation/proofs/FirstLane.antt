-- The first lane's verdict, rounds and bytes are the scenario's.
-- Assumes nothing.
use mathlib.Core.Path.{◌≡◌, sym, ap, ◌∙◌}
use mathlib.Core.List.{List}
use Prim.Native.Nat.{ℕ, ◌+◌, ◌*◌}
use native.Mathlib.Omega.{arith}
use lib.ListN.{get_or}
use Rattle.papers.specs.Program.{Program, Query}
use Rattle.dual.specs.Bytes.{filled}
use Rattle.model.specs.Model.{rounds, value_bytes, model_bytes, explains}
use Rattle.lanes.specs.Lanes.{lane_bit, lane}
use Rattle.settling.specs.RoundLanes.{SettledLanes}
use Rattle.verdicts.specs.VerdictLanes.{VerdictLanes}
use Rattle.valuation.proofs.ValueLaws.{first_bytes}

module _ (p : Program) (q : Query) (s w : ℕ) (counts : List ℕ) (v : VerdictLanes p q s w counts) where
  here : s + 0 ≡ s
  here = omega arith

  pub first_explained : lane_bit 0 w ≡ explains p q s
  first_explained = v.explained 0 (omega arith) ∙ ap (explains p q) here

  pub first_counted : get_or counts 0 0 ≡ rounds p s
  first_counted = v.counted 0 (omega arith) ∙ ap (rounds p) here

pub first_filled : (p : Program) (s n : ℕ) (trues falses counts before after : List ℕ) → p.atoms ≡ n → SettledLanes p s trues falses counts
    → after ≡ filled (value_bytes (lane (2 * n + 1) 0 trues) (lane (2 * n + 1) 0 falses)) before → after ≡ filled (model_bytes p s) before
first_filled p s n trues falses counts before after e l h =
    h
    ∙ ap (λ (x : ℕ). filled (value_bytes (lane (2 * x + 1) 0 trues) (lane (2 * x + 1) 0 falses)) before) (sym e)
    ∙ ap (λ (x : List ℕ). filled x before) (first_bytes p s trues falses counts l)
