-- What calls from the fresh record reach: the record and the list are those of the position, the general rule is minimality there,
-- and the general stopping point is the stopping point.
-- Assumes nothing.
use mathlib.Core.Path.{◌≡◌, sym, ap, ◌∙◌}
use mathlib.Core.List.{List}
use Prim.Native.Nat.{ℕ, ◌<◌, ◌≤◌, min}
use native.Mathlib.Omega.{arith}
use lib.ListN.{length, take}
use Rattle.steps.specs.Explanations.{Problem, scenarios, minimal, stop}
use Rattle.steps.specs.Continuing.{Record, fresh, new_to, stop_from}
use Rattle.steps.specs.Calls.{Call, Called, calls, allowances}
use Rattle.steps.proofs.Canonical.{record_at, list_at, new_at, stop_from_at}
use Rattle.steps.proofs.Pause.{calls_reach}

pub record Reached (P : Problem) (l : List ℕ) (c : Called) : Type 0 where
  pub last : c.last ≡ record_at P c.last.position
  pub list : c.list ≡ list_at P l c.last.position
  pub rule : c.last.position < scenarios P → new_to P (take c.last.found c.list) c.last.position ≡ minimal P c.last.position
  pub stops : stop_from P c.last c.list ≡ stop P (length l)

module _ (P : Problem) (l : List ℕ) where
  reached_at : (e : ℕ) (c : Called) → e ≤ stop P (length l) → c.last ≡ record_at P e → c.list ≡ list_at P l e → Reached P l c
  unfolding record_at
  reached_at e c h a b =
      let pos : c.last.position ≡ e = ap (λ (r : Record). r.position) a in
      record {
        last = a ∙ ap (record_at P) (sym pos);
        list = b ∙ ap (list_at P l) (sym pos);
        rule = rw (a, b) (new_at P l e);
        stops = rw (a, b) (stop_from_at P l e h);
      }

  pub reached : (cs : List Call) → Reached P l (calls P cs fresh l)
  reached cs =
      let r = calls_reach P l cs in
      reached_at (min (stop P (length l)) (allowances cs)) (calls P cs fresh l) (omega arith) r.last r.list
