-- Test 14 of a record that carries the masks: by its record, then by its masks.
-- Assumes nothing.
use mathlib.Core.Path.{◌≡◌, refl}
use mathlib.Core.Bool.{true, false}
use mathlib.Core.List.{List}
use Prim.Native.Nat.{ℕ}
use Rattle.std.specs.Prelude.{Result, Ok, Err}
use Rattle.std.specs.Result.{is_err}
use Rattle.papers.specs.Tests.{◌or◌}
use Rattle.papers.proofs.TestLaws.{neither, or_false}
use Rattle.steps.specs.Spoilt.{spoilt_by}
use Rattle.held.specs.declared.MaskFault.{MaskFault}
use Rattle.held.specs.declared.SearchRecord.{SearchRecord}
use Rattle.held.specs.Masks.{masks_tested}
use Rattle.held.specs.HeldCalls.{unfit, spoilt_search_by}

pub err_unfit : (tested : Result (Unit {0}) MaskFault) → is_err tested ≡ unfit tested
unfolding unfit
err_unfit (Ok _) = refl
err_unfit (Err fault) = refl

module _ (k total : ℕ) (r : SearchRecord) (list : List ℕ) where
  pub spoilt_record : spoilt_by total r.at list ≡ true → spoilt_search_by k total r list ≡ true
  unfolding spoilt_search_by ◌or◌
  spoilt_record e = rw e

  pub spoilt_masks : spoilt_by total r.at list ≡ false → spoilt_search_by k total r list ≡ unfit (masks_tested k r.held)
  unfolding spoilt_search_by ◌or◌
  spoilt_masks e = rw e

  pub unspoilt_record : spoilt_search_by k total r list ≡ false → spoilt_by total r.at list ≡ false
  unfolding spoilt_search_by
  unspoilt_record e = (neither (spoilt_by total r.at list) (unfit (masks_tested k r.held)) e).0

  -- Masks that pass add nothing to it.
  pub spoilt_passed : masks_tested k r.held ≡ Ok tt → spoilt_search_by k total r list ≡ spoilt_by total r.at list
  unfolding spoilt_search_by unfit
  spoilt_passed e = rw e (or_false (spoilt_by total r.at list))
