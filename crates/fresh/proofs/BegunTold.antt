-- What is told of a fresh search fixes the answer: it is found again from that.
-- Assumes nothing.
use mathlib.Core.Path.{◌≡◌, refl, ap}
use mathlib.Core.Bool.{cond}
use Prim.Native.Nat.{ℕ}
use lib.Dec.{eqb}
use Rattle.std.specs.Prelude.{Result, Ok, Err}
use Rattle.papers.specs.declared.Bare.TheVariants as bare
use Rattle.papers.specs.declared.Fault.{Fault}
use Rattle.papers.specs.Told.{Told, tells, refused_by, refused_at, bare_number, bare_told, refusal_told}
use Rattle.papers.proofs.ToldLaws.{told_of, told_fixes, refused_with, fault_from_lem}
use Rattle.held.specs.declared.SearchRecord.{SearchRecord}
use Rattle.fresh.specs.declared.FreshError.{FreshError}
use Rattle.fresh.specs.declared.FreshError.TheVariants.{SharedBit, UnlistedBit, Refused}
use Rattle.fresh.specs.Beginning.{begun_told}

-- A fresh search is refused under 15 and 16 of those that name no paper.
abbrev begun_bare : ℕ → FreshError
begun_bare n = cond (eqb n (bare_number bare.SharedBit)) SharedBit UnlistedBit

abbrev pub begun_from : Told SearchRecord → Result SearchRecord FreshError
begun_from (tells r) = Ok r
begun_from (refused_by n) = Err (begun_bare n)
begun_from (refused_at n paper place) = Err (Refused (refused_with n paper place))

pub begun_from_lem : (r : Result SearchRecord FreshError) → begun_from (begun_told r) ≡ r
unfolding begun_told bare_told refusal_told
begun_from_lem (Ok r) = refl
begun_from_lem (Err SharedBit) = refl
begun_from_lem (Err UnlistedBit) = refl
begun_from_lem (Err (Refused r)) =
    ap (λ (f : Fault). Err (Refused (record { fault = f; paper = r.paper; place = r.place }))) (fault_from_lem r.fault)

pub begun_fixed : {r s : Result SearchRecord FreshError} → begun_told r ≡ begun_told s → r ≡ s
begun_fixed = told_fixes begun_told begun_from begun_from_lem

-- Where a record is told, it was the answer.
pub begun_ok : {answer : Result SearchRecord FreshError} {r : SearchRecord} → begun_told answer ≡ tells r → answer ≡ Ok r
begun_ok = told_of begun_told begun_from begun_from_lem
