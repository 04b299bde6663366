-- What a fresh search tells. "A fresh search takes the file and two 16-bit masks."
use Rattle.std.specs.Prelude.{length, Result, Ok, Err}
use Rattle.papers.specs.declared.Bare.TheVariants as bare
use Rattle.papers.specs.Program.{Program}
use Rattle.papers.specs.Outcome.{Outcome, accepted, refused}
use Rattle.papers.specs.Told.{Told, tells, refusal_of, bare_told, refusal_told}
use Rattle.held.specs.declared.Masks.{Masks}
use Rattle.held.specs.declared.MaskFault.{MaskFault}
use Rattle.held.specs.declared.MaskFault.TheVariants as fault
use Rattle.held.specs.declared.SearchRecord.{SearchRecord}
use Rattle.held.specs.Masks.{masks_tested}
use Rattle.held.specs.HeldCalls.{fresh_search}
use Rattle.fresh.specs.declared.FreshError.{FreshError}
use Rattle.fresh.specs.declared.FreshError.TheVariants.{SharedBit, UnlistedBit, Refused}

-- What each answer tells.
unfoldable pub begun_told : Result SearchRecord FreshError → Told SearchRecord
begun_told (Ok r) = tells r
begun_told (Err SharedBit) = bare_told bare.SharedBit
begun_told (Err UnlistedBit) = bare_told bare.UnlistedBit
begun_told (Err (Refused r)) = refusal_told (refusal_of r)

-- The error that a fault of the masks is.
abbrev pub fresh_error : MaskFault → FreshError
fresh_error fault.SharedBit = SharedBit
fresh_error fault.UnlistedBit = UnlistedBit

-- By the tests of the masks: "Fresh record: position 0, found 0", and it carries both.
unfoldable pub masks_told : Result (Unit {0}) MaskFault → Masks → Told SearchRecord
masks_told (Ok _) m = tells (fresh_search m)
masks_told (Err fault.SharedBit) m = bare_told bare.SharedBit
masks_told (Err fault.UnlistedBit) m = bare_told bare.UnlistedBit

-- What a fresh search has to tell. "Refused at the fresh search, after the file's own checks: 15 .., then 16 ..".
unfoldable pub fresh_told : Outcome Program → Masks → Told SearchRecord
fresh_told (refused r) m = refusal_told r
fresh_told (accepted p) m = masks_told (masks_tested (length p.abducibles) m) m
