-- `dual_writer::entries::Source::write_entry` meets its contract. The loop's invariant: the literal's field and those of the folds behind are written.
use lib.ListN.{length-drop}
use borrow.Rule.Slice.PartMut.{same_len_mid}
use Rattle.papers.proofs.NumbersWalked.{to_end}
use Rattle.dual.proofs.FilledLaws.{put_end}
use mathlib.Core.Path.{◌≡◌, refl, ap, ◌∙◌}
use mathlib.Core.List.{List, ◌∷◌}
use Prim.Native.Nat.{ℕ, ◌+◌, ◌-◌, ◌*◌, ◌≤◌, ◌<◌}
use native.Mathlib.Omega.{arith}
use lib.ListN.{length, get_or, drop}
use Rattle.std.proofs.Common.{Option, None}
use Rattle.literals.specs.declared.Fold.{Fold}
use Rattle.papers.specs.Program.{Rule, Program, all_rules}
use Rattle.papers.specs.Reading.{program_in}
use Rattle.papers.specs.Encoding.{encode_numbers, encode_field}
use Rattle.papers.proofs.FoldsWalked.{few_body}
use Rattle.dual.specs.Table.{folds_of}
use Rattle.dual_writer.specs.Chains.{number_from, Chain, folds_at}
use Rattle.dual.specs.Bytes.{filled}
use Rattle.dual.proofs.Folds.{FoldIn}
use Rattle.dual.proofs.AllEntries.{fold_bytes}
use Rattle.dual_writer.proofs.EntryWriting.{one_fold, folds_there, entered_none, entered_done, entered_fold, entered_few, entered_rises}
use Rattle.dual_writer.proofs.EntryWriting.{entered_room, entered_next, one_length, entry_parts, entry_written}
use Rattle.dual_writer.proofs.entries.Source.write_entry.Goals as goal
use Rattle.dual_writer.proofs.entries.Source.write_entry.Goals.{After-write_fold-size, After-write_literal-end, In-Some, Start}

-- ---- the folds that the chains hold for the literal

module _ (c : Start) where
  abbrev program : Program
  program = program_in c.args.self.now.file.now.bytes.now

  abbrev folds : List ℕ
  folds = folds_of program c.args.o.0

  abbrev next : List (Option Fold)
  next = c.args.self.now.chains.now.next

  abbrev tip : Option Fold
  tip = get_or c.args.self.now.chains.now.first c.args.o.0 None

  followed : folds_at next tip ≡ folds
  followed = folds_there program c.args.self.now.chains.now.first next c.args.o.0 c.requires.0.chains c.requires.1.0

  chain : Chain next tip folds
  chain = c.requires.0.chains.at c.args.o.0 c.requires.1.0

-- ---- once the literal's field is written

module _ (c : After-write_literal-end) where
  abbrev start : Start
  start = (goal.at.After-write_literal-end c).Start

  base : c.write_literal-end.result ≡ 5 + 2 * length (folds start)
  base = rw (followed start) at c.write_literal-end.ensures.0

  -- There is room for the folds' fields.
  fits : c.write_literal-end.result + length (fold_bytes (all_rules (program start)) (folds start)) ≤ length c.write_literal-end.new.buffer
  fits = omega (arith, base, entry_parts (program start) c.args.o.0, c.write_literal-end.auto.buffer)

-- ---- in a turn of the loop

module _ (c : In-Some) where
  abbrev heading : After-write_literal-end
  heading = (goal.at.In-Some c).After-write_literal-end

  abbrev rules : List Rule
  rules = all_rules (program (start heading))

  -- The fold's field.
  abbrev field : List ℕ
  field = one_fold rules c.in-Some.fold.0

  of_literal : FoldIn rules c.args.o.0 c.in-Some.fold.0
  of_literal = entered_fold _ _ _ _ _ _ _ _ c.loop-ahead.invariant.0 (fits heading) c.in-Some.fold c.in-Some.is

  few : c.in-Some.fold.0 < 1280
  few = entered_few _ _ _ _ _ _ _ _ c.loop-ahead.invariant.0 (fits heading) c.in-Some.fold c.in-Some.is

  rises : c.in-Some.fold.0 < number_from (get_or c.args.self.now.chains.now.next c.in-Some.fold.0 None)
  rises = entered_rises _ _ _ _ _ _ _ _ c.loop-ahead.invariant.0 (fits heading) c.in-Some.fold c.in-Some.is

  -- There is room for it.
  room : c.loop-ahead.end + length field ≤ length c.loop-ahead.buffer
  room =
      let r = entered_room _ _ _ _ _ _ _ _ c.loop-ahead.invariant.0 (fits heading) c.in-Some.fold c.in-Some.is in
      omega (arith, c.loop-ahead.invariant.1)

-- ---- once the fold's field is written

module _ (c : After-write_fold-size) where
  abbrev turn : In-Some
  turn = (goal.at.After-write_fold-size c).In-Some

  size : c.write_fold-size.result ≡ length (field turn)
  size =
      let one = one_length (rules turn) c.in-Some.fold.0 in
      omega (arith, one, c.write_fold-size.ensures.0, c.body_of-body.ensures.size)

  -- It ends within the buffer.
  ends : c.loop-ahead.end + c.write_fold-size.result ≤ length c.args.buffer.now
  ends = omega (arith, room turn, size, c.loop-ahead.invariant.1, c.write_literal-end.auto.buffer)

pub write_literal-end-requires : goal.write_literal-end-requires
write_literal-end-requires c =
    let start = (goal.at.write_literal-end-requires c).Start in
    let l = ap length (followed start) in
    let t = entry_parts (program start) c.args.o.0 in
    (rw (followed start) (chain start), (omega arith, omega arith))

pub loop-ahead-init : goal.loop-ahead-init
loop-ahead-init c =
    let heading = (goal.at.loop-ahead-init c).After-write_literal-end in
    let l = c.write_literal-end in
    let f = fits heading in
    let own = chain (start heading) in
    let linked = rw (← c.first_of-ahead.ensures) at own in
    (entered_none (program (start heading)) c.args.self.now.chains.now.next c.args.o.0 l.result l.new.buffer _ (omega arith) linked, refl)

pub body_of-body-requires : goal.body_of-body-requires
body_of-body-requires c = (of_literal (goal.at.body_of-body-requires c).In-Some).below

pub slice_bounds-write_fold-count : goal.slice_bounds-write_fold-count
slice_bounds-write_fold-count c = omega (arith, room (goal.at.slice_bounds-write_fold-count c).In-Some)

pub slice_bounds-write_fold-start : goal.slice_bounds-write_fold-start
slice_bounds-write_fold-start c = omega (arith, room (goal.at.slice_bounds-write_fold-start c).In-Some)

pub write_fold-size-requires : goal.write_fold-size-requires
write_fold-size-requires c =
    let turn = (goal.at.write_fold-size-requires c).In-Some in
    let s = c.args.self.now.file.now in
    let at = c.loop-ahead in
    let body = c.body_of-body.ensures in
    let r = room turn in
    let l = ap length body.literals in
    let o = one_length (rules turn) c.in-Some.fold.0 in
    let p = ap length (to_end at.end at.buffer) in
    let d = length-drop at.end at.buffer in
    let short = few_body s.bytes.now s.contents s.walked.answer c.in-Some.fold.0 (of_literal turn).below in
    let f = few turn in
    (omega (arith, body.size), (omega arith, (omega (arith, body.size), omega (arith, body.size))))

pub overflow_add-end : goal.overflow_add-end
overflow_add-end c = omega (arith, ends (goal.at.overflow_add-end c).After-write_fold-size)

pub loop-ahead-smaller : goal.loop-ahead-smaller
loop-ahead-smaller c =
    let turn = (goal.at.loop-ahead-smaller c).In-Some in
    let n = ap number_from c.in-Some.is in
    let rising = rises turn in
    let r = rw (← c.next_of-ahead.ensures) at rising in
    omega (arith, few turn)

pub loop-ahead-preserved : goal.loop-ahead-preserved
loop-ahead-preserved c =
    let after = (goal.at.loop-ahead-preserved c).After-write_fold-size in
    let l = c.loop-ahead in
    let part = c.write_fold-size.new.buffer in
    let literals = c.body_of-body.ensures.literals in
    let written : part ≡ filled (field (turn after)) (drop l.end l.buffer) = rw (literals, to_end l.end l.buffer) at c.write_fold-size.ensures.1 in
    let fold = c.in-Some.fold in (
      rw (put_end l.end l.buffer part, c.next_of-ahead.ensures)
          (entered_next _ _ _ _ _ _ _ _ l.invariant.0 (fits (heading (turn after))) fold c.in-Some.is part c.write_fold-size.result written (size after)),
      same_len_mid l.end (length l.buffer - l.end) l.buffer part c.write_fold-size.auto.buffer ∙ l.invariant.1,
    )

pub returns : goal.returns
returns c =
    let heading = (goal.at.returns c).After-write_literal-end in
    let a = c.args in
    let l = c.write_literal-end in
    let p = program (start heading) in
    let f = folds (start heading) in
    let d = entered_done _ _ _ _ _ _ _ _ c.loop-ahead.invariant.0 (fits heading) c.in_default.is in
    let q : l.new.buffer ≡ filled (encode_field 0x08 (encode_numbers (a.o.0 ∷ f))) a.buffer.now = rw (followed (start heading)) at l.ensures.1 in (
      omega (arith, base heading, d.0, entry_parts p a.o.0),
      entry_written p a.o.0 l.result a.buffer.now l.new.buffer c.loop-ahead.buffer (base heading) c.requires.1.1 q d.1,
    )
