-- `rows::rules::decode_rules` meets its contract. The loop's invariant: the rows of the rules passed are decoded.
use native.Mathlib.Omega.{arith}
use mathlib.Core.Path.{◌≡◌}
use mathlib.Core.List.{List, []}
use Prim.Native.Nat.{ℕ, ◌+◌, ◌≤◌, ◌<◌}
use lib.ListN.{length, get_or}
use Rattle.papers.specs.Program.{Program, all_rules, rule_at}
use Rattle.papers.specs.Reading.{program_in}
use Rattle.papers.proofs.FileFacts.{program_valid}
use Rattle.papers.proofs.FoldsWalked.{rules_counted, few_folds}
use Rattle.rows.specs.Rows.{rule_row, rule_rows, joined}
use Rattle.rows.proofs.RowLaws.{rule_rows_count, rule_row_at, rule_rows_bound}
use Rattle.rows.proofs.DecodedLaws.{decoded_none, decoded_room, decoded_more, decoded_all}
use Rattle.rows.proofs.rules.decode_rules.Goals as goal
use Rattle.rows.proofs.rules.decode_rules.Goals.{In-loop-fold, Start}

-- ---- what the file says

module _ (c : Start) where
  abbrev program : Program
  program = program_in c.args.file.now.bytes.now

  few : length (rule_rows program) ≤ 1280
  few =
      let file = c.args.file.now in
      let counted = rules_counted file.bytes.now file.contents file.walked.answer in
      omega (arith, few_folds file.bytes.now file.contents file.walked.answer, counted, rule_rows_count program)

  bound : length (joined (rule_rows program)) ≤ 23040
  bound = let file = c.args.file.now in rule_rows_bound program (program_valid file.bytes.now file.contents file.walked.answer)

  room : length (joined (rule_rows program)) ≤ length c.args.numbers.now
  room = omega (arith, bound, c.requires.0)

  starts_room : length (rule_rows program) ≤ length c.args.starts.now
  starts_room = omega (arith, few, c.requires.1)

-- ---- in a turn of the loop

module _ (c : In-loop-fold) where
  abbrev start : Start
  start = (goal.at.In-loop-fold c).Start

  abbrev p : Program
  p = program start

  abbrev row : List ℕ
  row = rule_row (rule_at p c.loop-fold.fold)

  listed : c.loop-fold.fold < length (rule_rows p)
  listed = omega (arith, c.fold_count-count.ensures, rule_rows_count p)

  below : c.loop-fold.fold < length (all_rules p)
  below = omega (arith, listed, rule_rows_count p)

  row_is : get_or (rule_rows p) c.loop-fold.fold [] ≡ row
  row_is = rule_row_at p c.loop-fold.fold below

  -- There is room for the next row.
  room_here : c.loop-fold.at + length row ≤ length (joined (rule_rows p))
  room_here =
      let l = c.loop-fold in
      decoded_room (rule_rows p) c.args.numbers.now c.args.starts.now (room start) (starts_room start) l.fold l.at l.numbers l.starts l.invariant
      listed row row_is

pub loop-fold-init : goal.loop-fold-init
loop-fold-init c =
    let start = (goal.at.loop-fold-init c).Start in
    decoded_none (rule_rows (program start)) c.args.numbers.now c.args.starts.now (room start) (starts_room start)

pub overflow_cast-starts : goal.overflow_cast-starts
overflow_cast-starts c =
    let r = room_here (goal.at.overflow_cast-starts c).In-loop-fold in
    omega (arith, bound (goal.at.overflow_cast-starts c).Start)

pub offset_bounds-starts-fold : goal.offset_bounds-starts-fold
offset_bounds-starts-fold c =
    omega (arith, few (goal.at.offset_bounds-starts-fold c).Start, listed (goal.at.offset_bounds-starts-fold c).In-loop-fold)

pub bounds-starts-fold : goal.bounds-starts-fold
bounds-starts-fold c =
    let h = listed (goal.at.bounds-starts-fold c).In-loop-fold in
    omega (arith, starts_room (goal.at.bounds-starts-fold c).Start, c.loop-fold.invariant.starts_kept)

pub decode_rule-at-requires : goal.decode_rule-at-requires
decode_rule-at-requires c =
    let turn = (goal.at.decode_rule-at-requires c).In-loop-fold in
    (below turn, omega (arith, room_here turn, room (start turn), c.loop-fold.invariant.kept))

pub loop-fold-preserved : goal.loop-fold-preserved
loop-fold-preserved c =
    let turn = (goal.at.loop-fold-preserved c).In-loop-fold in
    let l = c.loop-fold in
    let done = c.decode_rule-at in
    let a = c.args in
    decoded_more (rule_rows (p turn)) a.numbers.now a.starts.now (room (start turn)) (starts_room (start turn)) l.fold l.at l.numbers l.starts
    l.invariant (listed turn) (row turn) (row_is turn) done.result done.new.numbers done.ensures.0 done.ensures.1 done.auto.numbers

pub returns : goal.returns
returns c =
    let start = (goal.at.returns c).Start in
    let l = c.loop-fold in
    decoded_all (rule_rows (program start)) c.args.numbers.now c.args.starts.now (room start) (starts_room start) l.fold l.at l.numbers l.starts
    l.invariant (omega (arith, c.fold_count-count.ensures, rule_rows_count (program start)))
