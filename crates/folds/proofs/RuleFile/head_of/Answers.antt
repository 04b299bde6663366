-- `folds::RuleFile::head_of` meets its contract.
use Prim.Native.Nat.{◌+◌, ◌<◌}
use native.Mathlib.Omega.{arith}
use lib.ListN.{length, get_or}
use Rattle.folds.specs.declared.RuleFile.{RuleFile}
use Rattle.papers.proofs.FoldsWalked.{fold_few, headed, head_there, head_falsum}
use Rattle.folds.proofs.RuleFile.head_of.Goals as goal
use Rattle.folds.proofs.RuleFile.head_of.Goals.{Then-fold-self}

-- ---- where the fold is a rule's

module _ (c : Then-fold-self) where
  abbrev file : RuleFile
  file = c.args.self.now

  few : c.args.fold.0 < 1280
  few = fold_few file.bytes.now file.contents file.places file.walked file.fits c.args.fold.0 c.requires

  there : get_or file.places c.args.fold.0 0 + 4 < length file.bytes.now
  there = headed file.bytes.now file.contents file.places file.walked file.fits c.args.fold.0 c.requires c.if-fold-self.true

pub offset_bounds-self-fold : goal.offset_bounds-self-fold
offset_bounds-self-fold c = omega (arith, few (goal.at.offset_bounds-self-fold c).Then-fold-self)

pub bounds-self-fold : goal.bounds-self-fold
bounds-self-fold c = few (goal.at.bounds-self-fold c).Then-fold-self

pub overflow_add-self : goal.overflow_add-self
overflow_add-self c = omega (arith, there (goal.at.overflow_add-self c).Then-fold-self)

pub objective_at-requires : goal.objective_at-requires
objective_at-requires c = omega (arith, there (goal.at.objective_at-requires c).Then-fold-self)

pub returns-then-fold-self : goal.returns-then-fold-self
returns-then-fold-self c =
    let file = c.args.self.now in
    head_there file.bytes.now file.contents file.places file.walked file.fits c.args.fold.0 c.requires
    c.if-fold-self.true c.objective_at.ensures.0

pub returns-else-fold-self : goal.returns-else-fold-self
returns-else-fold-self c =
    let file = c.args.self.now in
    rw c.falsum.ensures
    (head_falsum file.bytes.now file.contents file.places file.walked file.fits c.args.fold.0 c.requires
    c.if-fold-self.false)
