-- `fresh::fresh` meets its contract: the file is refused, or the masks are tested.
use mathlib.Core.Path.{◌≡◌, sym, ap, ◌∙◌}
use Prim.Native.Nat.{ℕ}
use native.Mathlib.Omega.{arith}
use lib.ListN.{length}
use Rattle.std.proofs.lemmas.Result.{err_from_is_err_and}
use Rattle.papers.specs.Reading.{read_file, program_in}
use Rattle.papers.specs.Answers.{contents_of}
use Rattle.papers.specs.Told.{tells, read_told}
use Rattle.papers.proofs.FileFacts.{told, abducibles_are, program_valid}
use Rattle.papers.proofs.ReadersGot.{got_refused, got_accepted, accepted_told}
use Rattle.held.specs.Masks.{masks, masks_tested}
use Rattle.fresh.proofs.FreshLaws.{fresh_refused, fresh_unfit, fresh_passed}
use Rattle.fresh.proofs.fresh.Goals as goal
use Rattle.fresh.proofs.fresh.Goals.{In_ok-contents, After-test_masks}

pub returns-in_err-contents : goal.returns-in_err-contents
returns-in_err-contents c =
    let p = err_from_is_err_and c.from_residual.result c.from_residual.ensures.1 in
    rw p.1 (fresh_refused _ (got_refused _ contents_of (read_file c.args.file.now) c.read_file.ensures c.in_err-contents.was) p.2)

-- The file is accepted.
module _ (c : In_ok-contents) where
  answer : read_told contents_of (read_file c.args.file.now) ≡ tells c.in_ok-contents.contents
  answer =
      let read = read_file c.args.file.now in
      accepted_told contents_of read (got_accepted _ contents_of read c.read_file.ensures c.in_ok-contents.was)

  abducibles : length (program_in c.args.file.now).abducibles ≡ c.in_ok-contents.contents.abducibles
  abducibles = abducibles_are c.args.file.now _ answer

pub test_masks-requires : goal.test_masks-requires
test_masks-requires c =
    let place = (goal.at.test_masks-requires c).In_ok-contents in
    omega (arith, abducibles place, (program_valid c.args.file.now _ (answer place)).few_abducibles)

-- The masks are tested.
tested : (c : After-test_masks) → masks_tested (length (program_in c.args.file.now).abducibles) (masks c.args.assumed c.args.ruled) ≡ c.test_masks.result
tested c =
    let place = (goal.at.After-test_masks c).In_ok-contents in
    ap (λ (k : ℕ). masks_tested k (masks c.args.assumed c.args.ruled)) (abducibles place) ∙ sym c.test_masks.ensures

pub returns-in_err-test_masks : goal.returns-in_err-test_masks
returns-in_err-test_masks c =
    let p = err_from_is_err_and c.from_residual-in_err-test_masks.result c.from_residual-in_err-test_masks.ensures.1 in
    let is = (told c.args.file.now _ (answer (goal.at.returns-in_err-test_masks c).In_ok-contents)).is in
    rw p.1 (fresh_unfit _ is _ (tested (goal.at.returns-in_err-test_masks c).After-test_masks ∙ c.in_err-test_masks.was) p.2)

pub returns : goal.returns
returns c =
    let is = (told c.args.file.now _ (answer (goal.at.returns c).In_ok-contents)).is in
    fresh_passed _ is (tested (goal.at.returns c).After-test_masks ∙ c.in_ok-test_masks.was)
