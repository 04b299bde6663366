-- `dual_writer::write_accepted` meets its contract.
use mathlib.Core.Path.{◌≡◌, ap, ◌∙◌}
use Prim.Native.Nat.{◌+◌, ◌≤◌}
use native.Mathlib.Omega.{arith}
use lib.ListN.{length, length-drop}
use Rattle.papers.specs.Outcome.{accepted}
use Rattle.papers.specs.Program.{Program}
use Rattle.papers.specs.Reading.{read_file, program_in}
use Rattle.papers.proofs.FileFacts.{told}
use Rattle.papers.proofs.NumbersWalked.{to_end}
use Rattle.dual.proofs.FilledLaws.{put_end}
use Rattle.dual_writer.specs.Chains.{Chained}
use Rattle.dual_writer.proofs.TableWriting.{table_length, end_written, dual_short, dual_length_is, dual_fits}
use Rattle.dual_writer.proofs.write_accepted.Goals as goal
use Rattle.dual_writer.proofs.write_accepted.Goals.{After-link, After-write_entries-end, Start}

-- ---- what the file says

module _ (c : Start) where
  abbrev program : Program
  program = program_in c.args.file.now.bytes.now

  read : read_file c.args.file.now.bytes.now ≡ accepted program
  read = let file = c.args.file.now in (told file.bytes.now file.contents file.walked.answer).is

-- ---- once the folds are chained

linked : (c : After-link) → Chained c.args.file.now c.link.new.self
linked c = record { chains = c.link.ensures }

-- ---- once the entries are written

-- There is room for the end.
room : (c : After-write_entries-end) → c.write_entries-end.result + 3 ≤ length c.write_entries-end.new.buffer
room c =
    let w = c.write_entries-end in
    let size = table_length (program (goal.at.After-write_entries-end c).Start) in
    omega (arith, w.ensures.0, w.auto.buffer, c.dual_length-size.ensures, c.if-dual-size.false)

pub returns-then-dual-size : goal.returns-then-dual-size
returns-then-dual-size c =
    let start = (goal.at.returns-then-dual-size c).Start in
    let a = c.args in
    dual_short a.file.now.bytes.now a.dual.now (program start) (read start) c.dual_length-size.ensures a.allowed c.if-dual-size.true

pub returns-then-not-allowed : goal.returns-then-not-allowed
returns-then-not-allowed c =
    let start = (goal.at.returns-then-not-allowed c).Start in
    let a = c.args in
    let size = dual_length_is a.file.now.bytes.now a.dual.now (program start) (read start) c.dual_length-size.ensures c.if-dual-size.false in
    (size, rw (c.if-not-allowed.true))

pub write_end-requires : goal.write_end-requires
write_end-requires c =
    let w = c.write_entries-end in
    let p = ap length (to_end w.result w.new.buffer) in
    let d = length-drop w.result w.new.buffer in
    omega (arith, room (goal.at.write_end-requires c).After-write_entries-end)

pub returns : goal.returns
returns c =
    let start = (goal.at.returns c).Start in
    let ended = c.write_end in
    let w = c.write_entries-end in
    let a = c.args in
    let size = c.dual_length-size.ensures in
    let fits = c.if-dual-size.false in
    let end = rw (to_end w.result w.new.buffer) at ended.ensures in
    let whole = end_written (program start) a.dual.now w.new.buffer ended.new.buffer w.result w.ensures.0 w.ensures.1 end in
    let put = put_end w.result w.new.buffer ended.new.buffer ∙ whole in (
      dual_length_is a.file.now.bytes.now a.dual.now (program start) (read start) size fits,
      rw (c.if-not-allowed.false) (dual_fits a.file.now.bytes.now a.dual.now (program start) (read start) size fits _ put),
    )
