-- What is told of the dual fixes the answer: it is found again from that.
-- Assumes nothing.
use mathlib.Core.Path.{◌≡◌, refl, ap}
use Prim.Native.Nat.{ℕ}
use Rattle.std.proofs.Common.{Result, Ok, Err}
use Rattle.papers.specs.declared.Fault.{Fault}
use Rattle.papers.proofs.ToldLaws.{told_fixes, refused_with, fault_from_lem}
use Rattle.papers.specs.Told.{Told, tells, refused_by, refused_at, bare_told, refusal_told}
use Rattle.dual_writer.specs.declared.DualError.{DualError}
use Rattle.dual_writer.specs.declared.DualError.TheVariants.{Short, Refused}
use Rattle.dual_writer.specs.WrittenDual.{written_told}

-- Writing is refused by one number that names no paper.
abbrev pub written_from : Told ℕ → Result ℕ DualError
written_from (tells n) = Ok n
written_from (refused_by n) = Err Short
written_from (refused_at n paper place) = Err (Refused (refused_with n paper place))

pub written_from_lem : (r : Result ℕ DualError) → written_from (written_told r) ≡ r
unfolding written_told bare_told refusal_told
written_from_lem (Ok n) = refl
written_from_lem (Err Short) = refl
written_from_lem (Err (Refused r)) =
    ap (λ (f : Fault). Err (Refused (record { fault = f; paper = r.paper; place = r.place }))) (fault_from_lem r.fault)

pub written_fixed : {r s : Result ℕ DualError} → written_told r ≡ written_told s → r ≡ s
written_fixed = told_fixes written_told written_from written_from_lem
