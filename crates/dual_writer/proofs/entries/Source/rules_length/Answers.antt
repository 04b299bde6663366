-- `dual_writer::entries::Source::rules_length` meets its contract. The loop's invariant: what the walk answers from the start is what it
-- answers from here.
use mathlib.Core.Path.{◌≡◌, sym, ◌∙◌}
use mathlib.Core.Bool.{false≢true}
use Prim.Native.Nat.{◌≤◌}
use native.Mathlib.Omega.{arith}
use borrow.Author.Tests.{eq-eqb, eqb-true}
use lib.ListN.{length}
use Rattle.papers.specs.Program.{all_rules, rule_at}
use Rattle.papers.specs.Reading.{program_in}
use Rattle.papers.proofs.FoldsWalked.{few_body}
use Rattle.dual.proofs.Folds.{FoldIn}
use Rattle.dual_writer.proofs.EntryLaws.{walk_all, walk_starts, walk_done, walk_fold, walk_fact, walk_next}
use Rattle.dual_writer.proofs.entries.Source.rules_length.Goals as goal
use Rattle.dual_writer.proofs.entries.Source.rules_length.Goals.{In-Some}

-- ---- in a turn of the loop

module _ (c : In-Some) where
  here : FoldIn (all_rules (program_in c.args.self.now.file.now.bytes.now)) c.args.o.0 c.in-Some.fold.0
  here = walk_fold _ _ _ _ _ c.loop-ahead.invariant c.in-Some.fold c.in-Some.is

  few : length (rule_at (program_in c.args.self.now.file.now.bytes.now) c.in-Some.fold.0).body ≤ 16
  few = let s = c.args.self.now.file.now in few_body s.bytes.now s.contents s.walked.answer c.in-Some.fold.0 here.below

pub loop-ahead-init : goal.loop-ahead-init
loop-ahead-init c =
    let s = c.args.self.now in
    rw c.first_of-ahead.ensures (walk_starts (program_in s.file.now.bytes.now) s.chains.now.first s.chains.now.next c.args.o.0 c.requires.0.chains c.requires.1)

pub returns-then-is_empty : goal.returns-then-is_empty
returns-then-is_empty c =
    let p = program_in c.args.self.now.file.now.bytes.now in
    let empty = eqb-true _ _ (sym c.is_empty.ensures ∙ c.if-is_empty.true) in
    (walk_fact _ _ _ _ _ c.loop-ahead.invariant c.in-Some.fold c.in-Some.is (omega (arith, c.body_of-body.ensures.size)) ∙ walk_all p c.args.o.0, tt)

pub loop-ahead-preserved : goal.loop-ahead-preserved
loop-ahead-preserved c =
    let size = c.body_of-body.ensures.size in
    let full = λ (z : length c.body_of-body.result.now ≡ 0). false≢true (sym c.if-is_empty.false ∙ c.is_empty.ensures ∙ eq-eqb _ _ z) in
    rw c.next_of-ahead.ensures
    (walk_next _ _ _ _ _ c.loop-ahead.invariant c.in-Some.fold c.in-Some.is _ size full (omega (arith, few (goal.at.loop-ahead-preserved c).In-Some)))

pub returns : goal.returns
returns c =
    let d = walk_done _ _ _ _ _ c.loop-ahead.invariant c.in_default.is in
    (d.0 ∙ walk_all (program_in c.args.self.now.file.now.bytes.now) c.args.o.0, d.1)
