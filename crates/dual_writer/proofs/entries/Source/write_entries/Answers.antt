-- `dual_writer::entries::Source::write_entries` meets its contract. The loop's invariant: the entries of the objective literals passed are written.
use mathlib.Core.Path.{◌≡◌, refl, sym, ap, ◌∙◌}
use mathlib.Core.List.{List}
use Prim.Native.Nat.{ℕ, ◌+◌, ◌-◌, ◌≤◌}
use native.Mathlib.Omega.{arith}
use lib.ListN.{length, drop, length-drop}
use borrow.Rule.Slice.PartMut.{same_len_mid}
use Rattle.literals.specs.Numbering.{judged}
use Rattle.papers.specs.Program.{Program}
use Rattle.papers.specs.Reading.{program_in}
use Rattle.dual.specs.Table.{entry_if_any}
use Rattle.dual.specs.TableEncoding.{encode_fields}
use Rattle.dual.specs.Bytes.{filled}
use Rattle.papers.proofs.FileFacts.{atoms_are, few_atoms_lem}
use Rattle.papers.proofs.NumbersWalked.{to_end}
use Rattle.dual.proofs.FilledLaws.{put_end}
use Rattle.dual_writer.proofs.TableWriting.{table_room, tabled_none, tabled_more, tabled_done}
use Rattle.dual_writer.proofs.entries.Source.write_entries.Goals as goal
use Rattle.dual_writer.proofs.entries.Source.write_entries.Goals.{At-loop-o, In-loop-o, Start}

-- ---- what the file says

module _ (c : Start) where
  abbrev program : Program
  program = program_in c.args.self.now.file.now.bytes.now

  atoms : program.atoms ≡ c.args.self.now.file.now.contents.atoms
  atoms = let s = c.args.self.now.file.now in atoms_are s.bytes.now s.contents s.walked.answer

-- ---- in a turn of the loop

counted : (c : At-loop-o) → c.judged-judged.result ≡ judged (program (goal.at.At-loop-o c).Start).atoms
counted c = c.judged-judged.ensures ∙ ap judged (sym (atoms (goal.at.At-loop-o c).Start))

module _ (c : In-loop-o) where
  abbrev p : Program
  p = program (goal.at.In-loop-o c).Start

  -- The bytes of the next entry.
  abbrev entry : List ℕ
  entry = encode_fields (entry_if_any p c.loop-o.o)

  -- There is room for it.
  room : c.loop-o.end + length entry + 3 ≤ length c.args.buffer.now
  room =
      let enough = table_room p c.judged-judged.result c.loop-o.o (counted (goal.at.In-loop-o c).At-loop-o) c.loop-o-test.true in
      omega (arith, c.loop-o.invariant.0.ends, enough, c.requires.1)

pub loop-o-init : goal.loop-o-init
loop-o-init c = (tabled_none (program (goal.at.loop-o-init c).Start) c.args.buffer.now, refl)

pub write_any_entry-size-requires : goal.write_any_entry-size-requires
write_any_entry-size-requires c =
    let at = c.loop-o in
    let r = room (goal.at.write_any_entry-size-requires c).In-loop-o in
    let p = ap length (to_end at.end at.buffer) in
    let d = length-drop at.end at.buffer in
    let s = c.args.self.now.file.now in
    let few = few_atoms_lem s.bytes.now s.contents s.walked.answer in
    (c.requires.0, (omega (arith, c.judged-judged.ensures), omega (arith, at.invariant.1)))

pub loop-o-preserved : goal.loop-o-preserved
loop-o-preserved c =
    let turn = (goal.at.loop-o-preserved c).In-loop-o in
    let wrote = c.write_any_entry-size in
    let l = c.loop-o in
    let part = wrote.new.buffer in
    let written : part ≡ filled (entry turn) (drop l.end l.buffer) = rw (to_end l.end l.buffer) at wrote.ensures.1 in (
      rw (put_end l.end l.buffer part)
          (tabled_more (p turn) c.args.buffer.now l.buffer l.o l.end l.invariant.0 part wrote.result written wrote.ensures.0),
      same_len_mid l.end (length l.buffer - l.end) l.buffer part wrote.auto.buffer ∙ l.invariant.1,
    )

pub returns : goal.returns
returns c =
    let l = c.loop-o in
    let all = counted (goal.at.returns c).At-loop-o in
    tabled_done (program (goal.at.returns c).Start) c.args.buffer.now l.buffer l.o l.end l.invariant.0 (omega arith)
