-- What is told of an import fixes the answer: it is found again from that.
-- Assumes nothing.
use mathlib.Core.Path.{◌≡◌, refl, sym, ap, ◌∙◌}
use mathlib.Core.Bool.{cond}
use Prim.Native.Nat.{ℕ}
use lib.Dec.{eqb}
use Rattle.std.proofs.Common.{Result, Ok, Err}
use Rattle.papers.specs.declared.Fault.TheVariants as fault
use Rattle.papers.proofs.ToldLaws.{fault_from}
use Rattle.text.specs.declared.TextFault.{TextFault}
use Rattle.text.specs.declared.TextFault.TheVariants.{Character, Line, File}
use Rattle.text.specs.Told.{text_fault_number}
use Rattle.importing.specs.declared.ImportError.{ImportError}
use Rattle.importing.specs.declared.ImportError.TheVariants.{Short, Refused}
use Rattle.importing.specs.Imports.{ImportTold, tells, refused_by, refused_in_text, imported_told}

abbrev pub text_fault_from : ℕ → TextFault
text_fault_from n = cond (eqb n 17) Character (cond (eqb n 18) Line (File (fault_from n)))

text_fault_from_lem : (f : TextFault) → text_fault_from (text_fault_number f) ≡ f
text_fault_from_lem Character = refl
text_fault_from_lem Line = refl
text_fault_from_lem (File fault.Cut) = refl
text_fault_from_lem (File fault.StrayField) = refl
text_fault_from_lem (File fault.Misfit) = refl
text_fault_from_lem (File fault.Edition) = refl
text_fault_from_lem (File fault.AtomCount) = refl
text_fault_from_lem (File fault.Unlisted) = refl
text_fault_from_lem (File fault.Disorder) = refl
text_fault_from_lem (File fault.FixedFault) = refl
text_fault_from_lem (File fault.Overfull) = refl
text_fault_from_lem (File fault.Tail) = refl

-- Importing is refused by one number that names no place.
abbrev pub imported_from : ImportTold → Result ℕ ImportError
imported_from (tells n) = Ok n
imported_from (refused_by n) = Err Short
imported_from (refused_in_text n place) = Err (Refused (record { fault = text_fault_from n; place = place }))

pub imported_from_lem : (r : Result ℕ ImportError) → imported_from (imported_told r) ≡ r
unfolding imported_told
imported_from_lem (Ok n) = refl
imported_from_lem (Err Short) = refl
imported_from_lem (Err (Refused r)) = ap (λ (f : TextFault). Err (Refused (record { fault = f; place = r.place }))) (text_fault_from_lem r.fault)

pub imported_fixed : {r s : Result ℕ ImportError} → imported_told r ≡ imported_told s → r ≡ s
imported_fixed {r} {s} e = sym (imported_from_lem r) ∙ ap imported_from e ∙ imported_from_lem s
