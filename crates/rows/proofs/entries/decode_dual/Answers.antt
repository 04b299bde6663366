-- `rows::entries::decode_dual` meets its contract. The loop's invariant: the rows of the objective literals passed are decoded, and the entries of the
-- others stand at the place.
use native.Mathlib.Omega.{arith}
use mathlib.Core.Path.{◌≡◌, sym, ◌∙◌}
use mathlib.Core.List.{List, []}
use Prim.Native.Nat.{ℕ, ◌+◌, ◌≤◌, ◌<◌}
use lib.ListN.{length, get_or}
use Rattle.literals.specs.Numbering.{judged}
use Rattle.papers.specs.Program.{Program}
use Rattle.papers.specs.Reading.{program_in}
use Rattle.rows.specs.Rows.{entry_row, entry_rows, joined}
use Rattle.rows.proofs.RowLaws.{entry_rows_count, entry_row_at, entry_rows_bound}
use Rattle.rows.proofs.DecodedLaws.{decoded_none, decoded_room, decoded_more, decoded_all}
use Rattle.rows.proofs.EntryBytes.{starts_at}
use Rattle.rows.proofs.entries.decode_dual.Goals as goal
use Rattle.rows.proofs.entries.decode_dual.Goals.{In-loop-o, Start}

-- ---- what is given

module _ (c : Start) where
  abbrev program : Program
  program = program_in c.args.file.now

  few : c.args.count ≤ 513
  few = omega (arith, c.requires.1.0, c.requires.0.valid.few_atoms)

  counted : c.args.count ≡ length (entry_rows program)
  counted = c.requires.1.0 ∙ sym (entry_rows_count program)

  bound : length (joined (entry_rows program)) ≤ 28000
  bound = entry_rows_bound program c.requires.0.valid

  room : length (joined (entry_rows program)) ≤ length c.args.numbers.now
  room = omega (arith, bound, c.requires.1.1.0)

  starts_room : length (entry_rows program) ≤ length c.args.starts.now
  starts_room = omega (arith, few, counted, c.requires.1.1.1)

-- ---- in a turn of the loop

module _ (c : In-loop-o) where
  abbrev start : Start
  start = (goal.at.In-loop-o c).Start

  abbrev p : Program
  p = program start

  abbrev row : List ℕ
  row = entry_row p c.loop-o.o

  below : c.loop-o.o < judged p.atoms
  below = omega (arith, c.requires.1.0)

  listed : c.loop-o.o < length (entry_rows p)
  listed = omega (arith, counted start)

  row_is : get_or (entry_rows p) c.loop-o.o [] ≡ row
  row_is = entry_row_at p c.loop-o.o below

  -- There is room for the next row.
  room_here : c.loop-o.reached.at + length row ≤ length (joined (entry_rows p))
  room_here =
      let l = c.loop-o in
      decoded_room (entry_rows p) c.args.numbers.now c.args.starts.now (room start) (starts_room start) l.o l.reached.at l.numbers l.starts
      l.invariant.1 listed row row_is

pub loop-o-init : goal.loop-o-init
loop-o-init c =
    let start = (goal.at.loop-o-init c).Start in
    let p = program start in (
      starts_at p c.args.dual.now c.requires.0,
      decoded_none (entry_rows p) c.args.numbers.now c.args.starts.now (room start) (starts_room start),
    )

pub overflow_cast-starts : goal.overflow_cast-starts
overflow_cast-starts c =
    let r = room_here (goal.at.overflow_cast-starts c).In-loop-o in
    omega (arith, bound (goal.at.overflow_cast-starts c).Start)

pub decode_entry-reached-requires : goal.decode_entry-reached-requires
decode_entry-reached-requires c =
    let turn = (goal.at.decode_entry-reached-requires c).In-loop-o in
    let l = c.loop-o in (
      l.invariant.0,
      (below turn, (omega (arith, room_here turn, bound (start turn)), omega (arith, c.requires.1.1.0, l.invariant.1.kept))),
    )

pub loop-o-preserved : goal.loop-o-preserved
loop-o-preserved c =
    let turn = (goal.at.loop-o-preserved c).In-loop-o in
    let l = c.loop-o in
    let done = c.decode_entry-reached in
    let a = c.args in (
      done.ensures.0,
      decoded_more (entry_rows (p turn)) a.numbers.now a.starts.now (room (start turn)) (starts_room (start turn)) l.o l.reached.at l.numbers l.starts
          l.invariant.1 (listed turn) (row turn) (row_is turn) done.result.at done.new.numbers done.ensures.1.0 done.ensures.1.1 done.auto.numbers,
    )

pub returns : goal.returns
returns c =
    let start = (goal.at.returns c).Start in
    let l = c.loop-o in
    decoded_all (entry_rows (program start)) c.args.numbers.now c.args.starts.now (room start) (starts_room start) l.o l.reached.at l.numbers l.starts
    l.invariant.1 (omega (arith, counted start))
