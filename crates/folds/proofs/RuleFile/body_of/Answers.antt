-- `folds::RuleFile::body_of` meets its contract.
use Prim.Native.Nat.{ℕ, ◌+◌, ◌-◌, ◌≤◌, ◌<◌}
use native.Mathlib.Omega.{arith}
use lib.ListN.{length, get_or, take, drop}
use Rattle.papers.specs.Program.{rule_at}
use Rattle.papers.specs.Reading.{program_in}
use Rattle.papers.specs.Places.{BodyOf}
use Rattle.folds.specs.declared.RuleFile.{RuleFile}
use Rattle.papers.proofs.FoldsWalked.{fold_few, place_heading, body_there, body_headed, body_bare}
use Rattle.folds.proofs.RuleFile.body_of.Goals as goal
use Rattle.folds.proofs.RuleFile.body_of.Goals.{After-field_end-end}

pub offset_bounds-self-fold : goal.offset_bounds-self-fold
offset_bounds-self-fold c =
    let file = c.args.self.now in
    let few = fold_few file.bytes.now file.contents file.places file.walked file.fits c.args.fold.0 c.requires in
    omega arith

pub bounds-self-fold : goal.bounds-self-fold
bounds-self-fold c =
    let file = c.args.self.now in
    fold_few file.bytes.now file.contents file.places file.walked file.fits c.args.fold.0 c.requires

pub field_end-end-requires : goal.field_end-end-requires
field_end-end-requires c =
    let file = c.args.self.now in
    place_heading file.bytes.now file.contents file.places file.walked file.fits c.args.fold.0 c.requires

-- ---- where the field's end is known

module _ (c : After-field_end-end) where
  abbrev file : RuleFile
  file = c.args.self.now

  abbrev end : ℕ
  end = c.field_end-end.result

  abbrev place : ℕ
  place = get_or file.places c.args.fold.0 0

  -- The body is the part of the file between a place and that end.
  abbrev Between : ℕ → Type 0
  Between from =
      (from ≤ end) × ((end ≤ length file.bytes.now)
      × BodyOf (rule_at (program_in file.bytes.now) c.args.fold.0) (take (end - from) (drop from file.bytes.now)))

  after_head : c.args.fold.0 < file.contents.rules.count → Between (place + 5)
  after_head h =
      body_there file.bytes.now file.contents file.places file.walked file.fits c.args.fold.0 c.requires (place + 5) end c.field_end-end.ensures
      (body_headed file.bytes.now file.contents file.places file.walked file.fits c.args.fold.0 c.requires h)

  after_heading : file.contents.rules.count ≤ c.args.fold.0 → Between (place + 3)
  after_heading h =
      body_there file.bytes.now file.contents file.places file.walked file.fits c.args.fold.0 c.requires (place + 3) end c.field_end-end.ensures
      (body_bare file.bytes.now file.contents file.places file.walked file.fits c.args.fold.0 c.requires h)

pub overflow_add-result : goal.overflow_add-result
overflow_add-result c = let r = after_head (goal.at.overflow_add-result c).After-field_end-end c.if-fold-self.true in omega arith

pub slice_bounds-result-count : goal.slice_bounds-result-count
slice_bounds-result-count c = let r = after_head (goal.at.slice_bounds-result-count c).After-field_end-end c.if-fold-self.true in omega arith

pub slice_bounds-result-start : goal.slice_bounds-result-start
slice_bounds-result-start c = let r = after_head (goal.at.slice_bounds-result-start c).After-field_end-end c.if-fold-self.true in omega arith

pub slice_bounds-result-end : goal.slice_bounds-result-end
slice_bounds-result-end c = (after_head (goal.at.slice_bounds-result-end c).After-field_end-end c.if-fold-self.true).1.0

pub slice_bounds-result-end-else-fold-self : goal.slice_bounds-result-end-else-fold-self
slice_bounds-result-end-else-fold-self c = (after_heading (goal.at.slice_bounds-result-end-else-fold-self c).After-field_end-end c.if-fold-self.false).1.0

pub returns-then-fold-self : goal.returns-then-fold-self
returns-then-fold-self c = (after_head (goal.at.returns-then-fold-self c).After-field_end-end c.if-fold-self.true).1.1

pub returns-else-fold-self : goal.returns-else-fold-self
returns-else-fold-self c = (after_heading (goal.at.returns-else-fold-self c).After-field_end-end c.if-fold-self.false).1.1
