-- What is told fixes the answer: each answer is found again from it.
-- Assumes nothing.
use mathlib.Core.Path.{◌≡◌, refl, sym, ap, ◌∙◌}
use mathlib.Core.Bool.{cond}
use Prim.Native.Nat.{ℕ}
use native.Mathlib.Omega.{arith}
use lib.Dec.{eqb}
use Rattle.std.specs.Prelude.{Ok, Err}
use Rattle.std.specs.declared.result.Result.{Result}
use Rattle.papers.specs.declared.Paper.{Paper}
use Rattle.papers.specs.declared.Paper.TheVariants.{File}
use Rattle.papers.specs.declared.Fault.{Fault}
use Rattle.papers.specs.declared.Fault.TheVariants as fault
use Rattle.papers.specs.declared.Refusal as declared
use Rattle.papers.specs.declared.Bare.{Bare}
use Rattle.papers.specs.declared.Bare.TheVariants.{ShortDual, ShortModel, NoScenario, SpoiltSearch, SharedBit, UnlistedBit}
use Rattle.papers.specs.Told.{Told, tells, refused_by, refused_at, fault_number, bare_number, refusal_told, value_told, result_told}

-- ---- any answer: what is told fixes it where it is found again from that

module _ {R X : Type 0} (told : R → X) (from : X → R) (found : (r : R) → from (told r) ≡ r) where
  pub told_of : {r : R} {x : X} → told r ≡ x → r ≡ from x
  told_of {r} e = sym (found r) ∙ ap from e

  pub told_fixes : {r s : R} → told r ≡ told s → r ≡ s
  told_fixes {r} {s} e = told_of e ∙ found s

-- ---- a refusal that names a paper: no two have one number

abbrev pub fault_from : ℕ → Fault
fault_from n =
    cond (eqb n 1) fault.Cut
    (cond (eqb n 2) fault.StrayField
    (cond (eqb n 3) fault.Misfit
    (cond (eqb n 4) fault.Edition
    (cond (eqb n 5) fault.AtomCount
    (cond (eqb n 6) fault.Unlisted
    (cond (eqb n 7) fault.Disorder
    (cond (eqb n 8) fault.FixedFault
    (cond (eqb n 9) fault.Overfull fault.Tail))))))))

pub fault_from_lem : (f : Fault) → fault_from (fault_number f) ≡ f
fault_from_lem fault.Cut = refl
fault_from_lem fault.StrayField = refl
fault_from_lem fault.Misfit = refl
fault_from_lem fault.Edition = refl
fault_from_lem fault.AtomCount = refl
fault_from_lem fault.Unlisted = refl
fault_from_lem fault.Disorder = refl
fault_from_lem fault.FixedFault = refl
fault_from_lem fault.Overfull = refl
fault_from_lem fault.Tail = refl

pub fault_fixed : {f g : Fault} → fault_number f ≡ fault_number g → f ≡ g
fault_fixed = told_fixes fault_number fault_from fault_from_lem

-- None is 0, by which checks pass.
pub fault_not_0 : (f : Fault) → fault_number f ≡ 0 → ⊥
fault_not_0 fault.Cut e = omega arith
fault_not_0 fault.StrayField e = omega arith
fault_not_0 fault.Misfit e = omega arith
fault_not_0 fault.Edition e = omega arith
fault_not_0 fault.AtomCount e = omega arith
fault_not_0 fault.Unlisted e = omega arith
fault_not_0 fault.Disorder e = omega arith
fault_not_0 fault.FixedFault e = omega arith
fault_not_0 fault.Overfull e = omega arith
fault_not_0 fault.Tail e = omega arith

-- ---- a refusal that names no paper: no two have one number

abbrev bare_from : ℕ → Bare
bare_from n =
    cond (eqb n (bare_number ShortDual)) ShortDual
    (cond (eqb n (bare_number ShortModel)) ShortModel
    (cond (eqb n (bare_number NoScenario)) NoScenario
    (cond (eqb n (bare_number SpoiltSearch)) SpoiltSearch
    (cond (eqb n (bare_number SharedBit)) SharedBit UnlistedBit))))

pub bare_from_lem : (b : Bare) → bare_from (bare_number b) ≡ b
bare_from_lem ShortDual = refl
bare_from_lem ShortModel = refl
bare_from_lem NoScenario = refl
bare_from_lem SpoiltSearch = refl
bare_from_lem SharedBit = refl
bare_from_lem UnlistedBit = refl

-- ---- what a call answers, as the file's reading, or that of both papers

-- The refusal with a number, a paper and a place.
abbrev pub refused_with : ℕ → Paper → ℕ → declared.Refusal
refused_with n paper place = record { fault = fault_from n; paper = paper; place = place }

module _ {A : Type 0} where
  -- Reading is refused under no other number: that case is of no use.
  abbrev pub result_from : Told A → Result A declared.Refusal
  result_from (tells a) = Ok a
  result_from (refused_by n) = Err (refused_with n File 0)
  result_from (refused_at n paper place) = Err (refused_with n paper place)

  pub result_from_lem : (r : Result A declared.Refusal) → result_from (result_told r) ≡ r
  unfolding value_told refusal_told
  result_from_lem (Ok a) = refl
  result_from_lem (Err r) = ap (λ (f : Fault). Err (record { fault = f; paper = r.paper; place = r.place })) (fault_from_lem r.fault)

  pub result_fixed : {r s : Result A declared.Refusal} → result_told r ≡ result_told s → r ≡ s
  result_fixed = told_fixes result_told result_from result_from_lem
