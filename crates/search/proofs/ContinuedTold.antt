-- What is told of a call fixes the answer: it is found again from that.
-- Assumes nothing.
use mathlib.Core.Path.{◌≡◌, refl, ap}
use mathlib.Core.Bool.{cond}
use Prim.Native.Nat.{ℕ}
use lib.Dec.{eqb}
use Rattle.std.specs.Prelude.{Result, Ok, Err}
use Rattle.papers.specs.declared.Bare.TheVariants as bare
use Rattle.papers.specs.declared.Fault.{Fault}
use Rattle.papers.specs.Told.{Told, tells, refused_by, refused_at, bare_number, bare_told, refusal_told}
use Rattle.papers.proofs.ToldLaws.{told_of, told_fixes, refused_with, fault_from_lem}
use Rattle.trying.specs.declared.Report.{Report}
use Rattle.search.specs.declared.ContinueError.{ContinueError}
use Rattle.search.specs.declared.ContinueError.TheVariants.{ShortDual, SpoiltSearch, Refused}
use Rattle.search.specs.Searching.{continued_told}

-- Continuing is refused under 11 and 14 of those that name no paper.
abbrev continued_bare : ℕ → ContinueError
continued_bare n = cond (eqb n (bare_number bare.ShortDual)) ShortDual SpoiltSearch

abbrev pub continued_from : Told Report → Result Report ContinueError
continued_from (tells x) = Ok x
continued_from (refused_by n) = Err (continued_bare n)
continued_from (refused_at n paper place) = Err (Refused (refused_with n paper place))

pub continued_from_lem : (r : Result Report ContinueError) → continued_from (continued_told r) ≡ r
unfolding continued_told bare_told refusal_told
continued_from_lem (Ok x) = refl
continued_from_lem (Err ShortDual) = refl
continued_from_lem (Err SpoiltSearch) = refl
continued_from_lem (Err (Refused r)) =
    ap (λ (f : Fault). Err (Refused (record { fault = f; paper = r.paper; place = r.place }))) (fault_from_lem r.fault)

pub continued_fixed : {r s : Result Report ContinueError} → continued_told r ≡ continued_told s → r ≡ s
continued_fixed = told_fixes continued_told continued_from continued_from_lem

-- Where a report is told, it was the answer.
pub reported_told : {r : Result Report ContinueError} {x : Report} → continued_told r ≡ tells x → r ≡ Ok x
reported_told = told_of continued_told continued_from continued_from_lem
