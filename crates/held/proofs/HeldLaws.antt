-- A search with held faults: what it explains and costs, and its calls, which are those of `steps` over its problem.
-- Assumes nothing.
use mathlib.Core.Path.{◌≡◌, refl, ap, ◌∙◌}
use mathlib.Core.Bool.{Bool, true, false, cond}
use mathlib.Core.List.{List}
use Prim.Native.Nat.{ℕ, zero, suc, ◌^◌, ◌≤◌}
use native.Mathlib.Omega.{arith}
use native.Mathlib.Nat.{zero-div}
use Rattle.std.specs.Prelude.{Ok}
use Rattle.papers.specs.Tests.{◌and◌, ◌or◌}
use Rattle.papers.proofs.TestLaws.{true_and}
use Rattle.lanes.proofs.LaneLaws.{lane_none}
use Rattle.steps.specs.Explanations.{Problem}
use Rattle.steps.specs.Continuing.{continue}
use Rattle.steps.specs.Calls.{Call, Answer, refusal, report, answer}
use Rattle.held.specs.declared.SearchRecord.{SearchRecord}
use Rattle.held.specs.Masks.{Masks, masks, masks_tested, keeps, agrees_at, agrees}
use Rattle.held.specs.HeldProblem.{held_explains, held_rounds, held_problem}
use Rattle.held.specs.HeldCalls.{spoilt_search, held_answer}
use Rattle.held.proofs.MaskWords.{tested_passed}
use Rattle.held.proofs.SearchTests.{spoilt_passed}

-- ---- what it explains and costs

-- A scenario that does not agree.
pub held_other : (P : Problem) (m : Masks) (s : ℕ) → agrees P.abducibles m s ≡ false → (held_explains P m s ≡ false) × (held_rounds P m s ≡ 0)
unfolding held_explains held_rounds ◌and◌
held_other P m s e = (rw e, rw e)

-- A bound on the rounds stays one.
pub held_most : (P : Problem) (m : Masks) (s b : ℕ) → P.rounds s ≤ b → held_rounds P m s ≤ b
unfolding held_rounds
held_most P m s b h = go (agrees P.abducibles m s)
  where
    go : (x : Bool) → cond x (P.rounds s) 0 ≤ b
    go true = h
    go false = omega arith

-- ---- no fault held

pub none_passed : (k : ℕ) → masks_tested k (masks 0 0) ≡ Ok tt
none_passed k = tested_passed k (masks 0 0) (omega arith) refl refl (omega arith) (zero-div (2 ^ k))

pub none_agrees : (k : ℕ) (m : Masks) (s : ℕ) → m.assumed ≡ 0 → m.ruled ≡ 0 → agrees k m s ≡ true
unfolding agrees agrees_at keeps ◌and◌ ◌or◌
none_agrees zero m s a r = refl
none_agrees (suc k) m s a r = rw (none_agrees k m s a r, a, r, lane_none k)

-- With both masks 0 the problem is that of the file and the sheet.
pub held_none : (P : Problem) → held_problem P (masks 0 0) ≡ P
unfolding held_explains held_rounds
held_none P = λ i. record { abducibles = P.abducibles; explains = λ s. e s i; rounds = λ s. r s i }
  where
    e : (s : ℕ) → (agrees P.abducibles (masks 0 0) s and P.explains s) ≡ P.explains s
    e s = rw (none_agrees P.abducibles (masks 0 0) s refl refl) (true_and (P.explains s))

    r : (s : ℕ) → cond (agrees P.abducibles (masks 0 0) s) (P.rounds s) 0 ≡ P.rounds s
    r s = rw (none_agrees P.abducibles (masks 0 0) s refl refl)

-- ---- one call

module _ (P : Problem) (c : Call) (r : SearchRecord) (list : List ℕ) where
  pub held_refused : c.refused ≡ true → held_answer P c r list ≡ refusal
  unfolding held_answer ◌or◌
  held_refused e = rw (e, held_answer)

  pub held_spoilt : c.refused ≡ false → spoilt_search P r list ≡ true → held_answer P c r list ≡ refusal
  unfolding held_answer ◌or◌
  held_spoilt e s = rw (e, s, held_answer)

  pub held_made : c.refused ≡ false → spoilt_search P r list ≡ false
      → held_answer P c r list ≡ report (continue (held_problem P r.held) c.allowance r.at list)
  unfolding held_answer ◌or◌
  held_made e s = rw (e, s, held_answer)

  -- With masks that pass 15 and 16, it is one over the problem with the held faults.
  pub held_answer_lem : masks_tested P.abducibles r.held ≡ Ok tt → held_answer P c r list ≡ answer (held_problem P r.held) c r.at list
  unfolding held_answer answer
  held_answer_lem e = ap told (spoilt_passed _ _ r list e)
    where
      told : Bool → Answer
      told b = elim (c.refused or b) [
        | true ↦ refusal
        | false ↦ report (continue (held_problem P r.held) c.allowance r.at list)
      ]

  -- With both masks 0, it is one over the problem of the file and the sheet.
  pub none_answer : r.held ≡ masks 0 0 → held_answer P c r list ≡ answer P c r.at list
  none_answer e =
      held_answer_lem (ap (masks_tested P.abducibles) e ∙ none_passed P.abducibles)
      ∙ ap (λ (m : Masks). answer (held_problem P m) c r.at list) e
      ∙ ap (λ (Q : Problem). answer Q c r.at list) (held_none P)
