-- What a fresh search answers; and that one that begins has masks that pass 15 and 16, and the fresh record with them.
-- Assumes nothing.
use mathlib.Core.Path.{◌≡◌, refl}
use mathlib.Core.Bool.{true≢false}
use lib.ListN.{length}
use Rattle.std.specs.Prelude.{Result, Ok, Err}
use Rattle.papers.specs.Program.{Program}
use Rattle.papers.specs.Outcome.{Outcome, accepted, refused}
use Rattle.papers.specs.declared.Refusal as declared
use Rattle.papers.specs.Told.{tells, refusal_of, bare_told, refusal_told}
use Rattle.held.specs.declared.Masks.{Masks}
use Rattle.held.specs.declared.MaskFault.{MaskFault}
use Rattle.held.specs.declared.MaskFault.TheVariants as fault
use Rattle.held.specs.declared.SearchRecord.{SearchRecord}
use Rattle.held.specs.Masks.{masks_tested}
use Rattle.held.specs.HeldCalls.{fresh_search}
use Rattle.fresh.specs.declared.FreshError.{FreshError}
use Rattle.fresh.specs.declared.FreshError.TheVariants.{Refused}
use Rattle.fresh.specs.Beginning.{begun_told, fresh_error, masks_told, fresh_told}

-- ---- the answers

module _ {read : Outcome Program} (m : Masks) where
  pub fresh_refused : {r : declared.Refusal} {e : FreshError} → read ≡ refused (refusal_of r) → e ≡ Refused r
      → begun_told (Err e) ≡ fresh_told read m
  unfolding begun_told fresh_told
  fresh_refused is e = rw (is, e)

  module _ {p : Program} (is : read ≡ accepted p) where
    pub fresh_unfit : (f : MaskFault) {e : FreshError} → masks_tested (length p.abducibles) m ≡ Err f → e ≡ fresh_error f
        → begun_told (Err e) ≡ fresh_told read m
    unfolding begun_told fresh_told masks_told
    fresh_unfit fault.SharedBit tested e = rw (is, tested, e)
    fresh_unfit fault.UnlistedBit tested e = rw (is, tested, e)

    pub fresh_passed : masks_tested (length p.abducibles) m ≡ Ok tt → begun_told (Ok (fresh_search m)) ≡ fresh_told read m
    unfolding begun_told fresh_told masks_told
    fresh_passed tested = rw (is, tested)

-- ---- one that begins

pub record Begins (read : Outcome Program) (m : Masks) (r : SearchRecord) : Type 0 where
  pub passed : (p : Program) → read ≡ accepted p → masks_tested (length p.abducibles) m ≡ Ok tt
  pub is : r ≡ fresh_search m

pub fresh_begins : (read : Outcome Program) (m : Masks) {r : SearchRecord} → fresh_told read m ≡ tells r → Begins read m r
unfolding fresh_told masks_told bare_told refusal_told
fresh_begins (refused x) m e = absurd (true≢false cc)
fresh_begins (accepted p) m {r} e = go (masks_tested (length p.abducibles) m) refl e
  where
    go : (t : Result (Unit {0}) MaskFault) → masks_tested (length p.abducibles) m ≡ t → masks_told t m ≡ tells r → Begins (accepted p) m r
    go (Ok _) q h = record {
      passed = λ x f. let same : x ≡ p = cc in rw same q;
      is = cc;
    }
    go (Err fault.SharedBit) q h = absurd (true≢false cc)
    go (Err fault.UnlistedBit) q h = absurd (true≢false cc)
