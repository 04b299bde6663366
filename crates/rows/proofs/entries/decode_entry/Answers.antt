-- `rows::entries::decode_entry` meets its contract: the first field tells whether o has an entry.
use native.Mathlib.Omega.{arith}
use mathlib.Core.Path.{◌≡◌, sym, ◌∙◌}
use mathlib.Core.Bool.{false≢true}
use mathlib.Core.List.{List}
use Rattle.std.proofs.Common.{Some}
use Prim.Native.Nat.{ℕ, ◌+◌, ◌-◌, ◌*◌, ◌≤◌, ◌<◌}
use lib.ListN.{length, drop, set, length-set}
use Rattle.literals.specs.Numbering.{judged}
use Rattle.papers.specs.Program.{Program}
use Rattle.papers.specs.Field.{size_of}
use Rattle.papers.specs.Reading.{program_in}
use Rattle.papers.proofs.FieldTests.{size_there}
use Rattle.dual.specs.Table.{folds_of}
use Rattle.rows.specs.Rows.{clauses_row, clauses_of, entry_row}
use Rattle.rows.specs.DualBytes.{literal_in, EntriesAt}
use Rattle.rows.proofs.RowLaws.{entry_row_length}
use Rattle.rows.proofs.EntryRows.{any_stands, any_next, any_size, any_whole, any_folds, bare_length, bare_laid, entry_laid}
use Rattle.rows.proofs.entries.decode_entry.Goals as goal
use Rattle.rows.proofs.entries.decode_entry.Goals.{After-number_at-size, After-slice_known-2-1, Else-not-is_entered, Start, Then-not-is_entered}

-- ---- what is given

module _ (c : Start) where
  abbrev program : Program
  program = program_in c.args.file.now

  abbrev bytes : List ℕ
  bytes = c.args.dual.now

  abbrev o : ℕ
  o = c.args.o.0

  abbrev place : ℕ
  place = c.args.from.place

  abbrev at : ℕ
  at = c.args.from.at

  abbrev numbers : List ℕ
  numbers = c.args.numbers.now

  stands : EntriesAt program bytes o place
  stands = c.requires.0

  within : o < judged program.atoms
  within = c.requires.1.0

  room : at + length (entry_row program o) ≤ length numbers
  room = omega (arith, c.requires.1.1)

  -- The row of an entry has two numbers before its clauses.
  sized : length (entry_row program o) ≡ 2 + length (clauses_row (clauses_of program o))
  sized = entry_row_length program o

  -- Writing the first leaves the array as long as it was.
  kept : length (set numbers at o) ≡ length numbers
  kept = length-set numbers at o

-- ---- where another field stands

module _ (c : Then-not-is_entered) where
  abbrev bare_start : Start
  bare_start = (goal.at.Then-not-is_entered c).Start

  isnt : literal_in (drop c.args.from.place c.args.dual.now) ≡ Some c.args.o.0 → ⊥
  isnt e = false≢true (sym c.if-not-is_entered.true ∙ c.is_entered.ensures.1 e)

  bare : length (entry_row (program bare_start) c.args.o.0) ≡ 3
  bare = bare_length (program bare_start) c.args.dual.now c.args.o.0 c.args.from.place (stands bare_start) (within bare_start) isnt

-- ---- where the field is o's own

module _ (c : Else-not-is_entered) where
  abbrev own_start : Start
  own_start = (goal.at.Else-not-is_entered c).Start

  is : literal_in (drop c.args.from.place c.args.dual.now) ≡ Some c.args.o.0
  is = c.is_entered.ensures.0 c.if-not-is_entered.false

  -- it stands whole,
  whole : c.args.from.place + 5 + 2 * length (folds_of (program own_start) c.args.o.0) ≤ length c.args.dual.now
  whole = any_whole (program own_start) c.args.dual.now c.args.o.0 c.args.from.place (stands own_start) (within own_start) is

-- and has a number for each fold.
module _ (c : After-number_at-size) where
  abbrev sized_start : Start
  sized_start = (goal.at.After-number_at-size c).Start

  read : c.number_at-size.result ≡ size_of (drop c.args.from.place c.args.dual.now)
  read = c.number_at-size.ensures.0 ∙ sym (size_there c.args.from.place c.args.dual.now)

  counted : c.number_at-size.result ≡ 2 + 2 * length (folds_of (program sized_start) c.args.o.0)
  counted =
      let s = sized_start in
      let own = is (goal.at.After-number_at-size c).Else-not-is_entered in
      read ∙ any_size (program s) c.args.dual.now c.args.o.0 c.args.from.place (stands s) (within s) own

-- ---- where its clauses are written

module _ (c : After-slice_known-2-1) where
  abbrev written_start : Start
  written_start = (goal.at.After-slice_known-2-1 c).Start

  abbrev written : List ℕ
  written = c.decode_folds-reached.new.numbers

  written_kept : length written ≡ length c.args.numbers.now
  written_kept = c.decode_folds-reached.auto.numbers ∙ kept written_start

  size : c.decode_folds-reached.result.at - (c.args.from.at + 2) ≡ length (clauses_row (clauses_of (program written_start) c.args.o.0))
  size = omega (arith, c.decode_folds-reached.ensures.1.0)

pub is_entered-requires : goal.is_entered-requires
is_entered-requires c =
    let s = (goal.at.is_entered-requires c).Start in
    any_stands (program s) c.args.dual.now c.args.o.0 c.args.from.place (stands s) (within s)

pub bounds-numbers-at : goal.bounds-numbers-at
bounds-numbers-at c =
    let s = (goal.at.bounds-numbers-at c).Start in
    omega (arith, room s, sized s)

pub bounds-numbers-at-then-not-is_entered : goal.bounds-numbers-at-then-not-is_entered
bounds-numbers-at-then-not-is_entered c =
    let s = (goal.at.bounds-numbers-at-then-not-is_entered c).Start in
    let bare_at = (goal.at.bounds-numbers-at-then-not-is_entered c).Then-not-is_entered in
    omega (arith, room s, bare bare_at, kept s)

pub bounds-numbers-start : goal.bounds-numbers-start
bounds-numbers-start c =
    let s = (goal.at.bounds-numbers-start c).Start in
    let bare_at = (goal.at.bounds-numbers-start c).Then-not-is_entered in
    simp length-set (omega (arith, room s, bare bare_at))

pub returns-then-not-is_entered : goal.returns-then-not-is_entered
returns-then-not-is_entered c =
    let s = (goal.at.returns-then-not-is_entered c).Start in
    let bare_at = (goal.at.returns-then-not-is_entered c).Then-not-is_entered in (
      any_next (program s) c.args.dual.now c.args.o.0 c.args.from.place (stands s) (within s) (isnt bare_at),
      (
        omega (arith, bare bare_at),
        bare_laid (program s) c.args.dual.now c.args.o.0 c.args.from.place (stands s) (within s) (isnt bare_at)
            c.args.from.at c.args.numbers.now (room s),
      ),
    )

pub overflow_add-place : goal.overflow_add-place
overflow_add-place c =
    let own = (goal.at.overflow_add-place c).Else-not-is_entered in
    omega (arith, whole own)

pub number_at-size-requires : goal.number_at-size-requires
number_at-size-requires c =
    let own = (goal.at.number_at-size-requires c).Else-not-is_entered in
    omega (arith, whole own)

pub overflow_sub-folds : goal.overflow_sub-folds
overflow_sub-folds c =
    let at_size = (goal.at.overflow_sub-folds c).After-number_at-size in
    omega (arith, counted at_size)

pub overflow_add-clauses : goal.overflow_add-clauses
overflow_add-clauses c =
    let own = (goal.at.overflow_add-clauses c).Else-not-is_entered in
    omega (arith, whole own)

pub overflow_add-clauses-2 : goal.overflow_add-clauses-2
overflow_add-clauses-2 c =
    let own = (goal.at.overflow_add-clauses-2 c).Else-not-is_entered in
    let at_size = (goal.at.overflow_add-clauses-2 c).After-number_at-size in
    omega (arith, whole own, counted at_size)

pub decode_folds-reached-requires : goal.decode_folds-reached-requires
decode_folds-reached-requires c =
    let at_size = (goal.at.decode_folds-reached-requires c).After-number_at-size in
    let s = (goal.at.decode_folds-reached-requires c).Start in
    let own = (goal.at.decode_folds-reached-requires c).Else-not-is_entered in
    let z = read at_size in (
      any_folds (program s) c.args.dual.now c.args.o.0 c.args.from.place (stands s) (within s) (is own)
          (c.args.from.place + 3 + c.number_at-size.result) (omega arith),
      (omega (arith, counted at_size), omega (arith, room s, sized s, kept s)),
    )

pub overflow_cast-numbers-2 : goal.overflow_cast-numbers-2
overflow_cast-numbers-2 c =
    let at_end = (goal.at.overflow_cast-numbers-2 c).After-slice_known-2-1 in
    let s = (goal.at.overflow_cast-numbers-2 c).Start in
    omega (arith, size at_end, sized s, c.requires.1.1.0)

pub bounds-numbers-at-2 : goal.bounds-numbers-at-2
bounds-numbers-at-2 c =
    let s = (goal.at.bounds-numbers-at-2 c).Start in
    let at_end = (goal.at.bounds-numbers-at-2 c).After-slice_known-2-1 in
    omega (arith, room s, sized s, written_kept at_end)

pub returns : goal.returns
returns c =
    let s = (goal.at.returns c).Start in
    let at_end = (goal.at.returns c).After-slice_known-2-1 in
    let r = c.decode_folds-reached in (
      r.ensures.0,
      (
        omega (arith, r.ensures.1.0, sized s),
        entry_laid (program s) c.args.o.0 c.args.from.at (r.result.at - (c.args.from.at + 2)) c.args.numbers.now
            (written at_end) (size at_end) (room s) r.ensures.1.1,
      ),
    )
