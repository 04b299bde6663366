-- `dual_writer::entries::Source::dual_length` meets its contract. The loop's invariant: what was counted and what is left make the whole.
use mathlib.Core.Path.{◌≡◌, sym, ap, ◌∙◌}
use Prim.Native.Nat.{ℕ, ◌+◌, ◌-◌, ◌≤◌}
use native.Mathlib.Omega.{arith}
use Rattle.literals.specs.Numbering.{judged}
use Rattle.papers.specs.Program.{Program}
use Rattle.papers.specs.Reading.{program_in}
use Rattle.dual.specs.Length.{entries_length, dual_length}
use Rattle.papers.proofs.FileFacts.{program_valid, atoms_are, few_atoms_lem}
use Rattle.dual.proofs.Bound.{dual_bound}
use Rattle.dual_writer.proofs.EntryLaws.{entries_next, entries_none}
use Rattle.dual_writer.proofs.entries.Source.dual_length.Goals as goal
use Rattle.dual_writer.proofs.entries.Source.dual_length.Goals.{After-judged-judged, After-unwrap_or-total}

-- ---- where the count of the judged literals is known

module _ (c : After-judged-judged) where
  abbrev program : Program
  program = program_in c.args.self.now.file.now.bytes.now

  abbrev count : ℕ
  count = c.judged-judged.result

  counted : count ≡ judged program.atoms
  counted = let s = c.args.self.now.file.now in c.judged-judged.ensures ∙ ap judged (sym (atoms_are s.bytes.now s.contents s.walked.answer))

  length_is : dual_length program ≡ entries_length program count 0 + 3
  unfolding dual_length
  length_is = ap (λ (n : ℕ). entries_length program n 0 + 3) (sym counted)

  -- All of them fit.
  whole : entries_length program count 0 + 3 ≤ 52488
  whole = let s = c.args.self.now.file.now in rw (← length_is) (dual_bound program (program_valid s.bytes.now s.contents s.walked.answer))

-- ---- in a turn of the loop

module _ (c : After-unwrap_or-total) where
  abbrev turn : After-judged-judged
  turn = (goal.at.After-unwrap_or-total c).After-judged-judged

  next : c.loop-o.total + entries_length (program turn) (count turn - c.loop-o.o) c.loop-o.o
      ≡ c.loop-o.total + c.unwrap_or-total.result + entries_length (program turn) (count turn - (c.loop-o.o + 1)) (c.loop-o.o + 1)
  next = rw c.unwrap_or-total.ensures (entries_next (program turn) (count turn) c.loop-o.o c.loop-o.total c.loop-o-test.true c.entry_length.ensures.0)

pub entry_length-requires : goal.entry_length-requires
entry_length-requires c =
    let s = c.args.self.now.file.now in
    let few = few_atoms_lem s.bytes.now s.contents s.walked.answer in
    (c.requires, omega (arith, c.judged-judged.ensures))

pub overflow_add-total : goal.overflow_add-total
overflow_add-total c =
    let w = whole (goal.at.overflow_add-total c).After-judged-judged in
    let n = next (goal.at.overflow_add-total c).After-unwrap_or-total in
    omega arith

pub loop-o-preserved : goal.loop-o-preserved
loop-o-preserved c = c.loop-o.invariant ∙ next (goal.at.loop-o-preserved c).After-unwrap_or-total

pub overflow_add-result : goal.overflow_add-result
overflow_add-result c = let w = whole (goal.at.overflow_add-result c).After-judged-judged in omega arith

pub returns : goal.returns
returns c =
    let at = (goal.at.returns c).After-judged-judged in
    let z = entries_none (program at) (count at) c.loop-o.o c.loop-o-test.false in
    omega (arith, length_is at)
