-- `dual_writer::chains::Chains::link` meets its contract. The loop's invariant: the rules from here on are linked.
use mathlib.Core.Path.{◌≡◌}
use mathlib.Core.List.{List}
use Prim.Native.Nat.{◌+◌, ◌-◌, ◌≤◌, ◌<◌}
use native.Mathlib.Omega.{arith}
use lib.ListN.{length}
use Rattle.papers.specs.Program.{Rule, all_rules}
use Rattle.papers.specs.Reading.{program_in}
use Rattle.papers.proofs.FoldsWalked.{rules_counted, few_folds}
use Rattle.dual_writer.proofs.ChainLaws.{linked_none, linked_more, linked_all}
use Rattle.dual_writer.proofs.chains.Chains.link.Goals as goal
use Rattle.dual_writer.proofs.chains.Chains.link.Goals.{In-loop-k, Start}

-- ---- what the file says

module _ (c : Start) where
  abbrev rules : List Rule
  rules = all_rules (program_in c.args.file.now.bytes.now)

  few : length rules ≤ 1280
  few =
      let file = c.args.file.now in
      omega (arith, few_folds file.bytes.now file.contents file.walked.answer, rules_counted file.bytes.now file.contents file.walked.answer)

-- ---- in a turn of the loop

module _ (c : In-loop-k) where
  below : c.loop-k.k - 1 < length (rules (goal.at.In-loop-k c).Start)
  below = omega (arith, c.fold_count-k.ensures)

  few_here : c.loop-k.k - 1 < 1280
  few_here = omega (arith, below, few (goal.at.In-loop-k c).Start)

pub overflow_step-k : goal.overflow_step-k
overflow_step-k c = omega (arith, few (goal.at.overflow_step-k c).Start)

pub loop-k-init : goal.loop-k-init
loop-k-init c =
    let start = (goal.at.loop-k-init c).Start in
    let n = c.fold_count-k.ensures in
    rw (n, c.requires.0, c.requires.1) (linked_none (rules start) (omega (arith, few start)))

pub head_of-head-requires : goal.head_of-head-requires
head_of-head-requires c = below (goal.at.head_of-head-requires c).In-loop-k

pub loop-k-preserved : goal.loop-k-preserved
loop-k-preserved c =
    let turn = (goal.at.loop-k-preserved c).In-loop-k in
    let l = c.loop-k in
    let e : l.k ≡ l.k - 1 + 1 = omega arith in
    linked_more (rules (goal.at.loop-k-preserved c).Start) (record { 0 = l.k - 1 }) (below turn) l.self.first l.self.next (few_here turn) (rw e at l.invariant)
    c.head_of-head.ensures.0 c.head_of-head.ensures.1

pub returns : goal.returns
returns c =
    let l = c.loop-k in
    let e : l.k ≡ 0 = omega arith in
    linked_all (program_in c.args.file.now.bytes.now) l.self.first l.self.next (rw e at l.invariant)
