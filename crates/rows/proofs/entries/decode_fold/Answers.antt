-- `rows::entries::decode_fold` meets its contract: the part after the fold number has the listed literals.
use native.Mathlib.Omega.{arith}
use mathlib.Core.Path.{◌≡◌, refl, sym, ap, ◌∙◌}
use mathlib.Core.List.{List}
use Prim.Native.Nat.{ℕ, ◌+◌, ◌-◌, ◌*◌, ◌/◌, ◌≤◌}
use lib.ListN.{length, take, drop, length-drop, length-set}
use Rattle.papers.specs.Field.{numbers, size_of}
use Rattle.papers.proofs.FieldTests.{size_there}
use Rattle.papers.proofs.NumbersWalked.{count_numbers}
use Rattle.rows.specs.DualBytes.{listed_in}
use Rattle.rows.proofs.EntryBytes.{listed_part}
use Rattle.rows.proofs.FoldRows.{clause_laid}
use Rattle.rows.proofs.entries.decode_fold.Goals as goal
use Rattle.rows.proofs.entries.decode_fold.Goals.{After-number_at, Start}

-- Its heading and its fold number stand in the bytes.
within : (c : Start) → c.args.from.place + 5 ≤ length c.args.dual.now
within c = omega (arith, c.requires.0.whole, c.requires.0.numbered, length-drop c.args.from.place c.args.dual.now)

-- ---- where its size is read

module _ (c : After-number_at) where
  abbrev bytes : List ℕ
  bytes = drop c.args.from.place c.args.dual.now

  abbrev next : ℕ
  next = c.args.from.place + 3 + c.number_at.result

  -- What it lists.
  abbrev part : List ℕ
  part = take (next - (c.args.from.place + 5)) (drop (c.args.from.place + 5) c.args.dual.now)

  sized : c.number_at.result ≡ size_of bytes
  sized = c.number_at.ensures.0 ∙ sym (size_there c.args.from.place c.args.dual.now)

  listed : numbers part ≡ listed_in bytes
  listed = let e = sized in listed_part c.args.dual.now c.args.from.place (c.args.from.place + 5) next refl (omega arith)

pub slice_bounds-listed-count : goal.slice_bounds-listed-count
slice_bounds-listed-count c =
    let at_number_at = (goal.at.slice_bounds-listed-count c).After-number_at in
    omega (arith, sized at_number_at, c.requires.0.numbered)

pub slice_bounds-listed-start : goal.slice_bounds-listed-start
slice_bounds-listed-start c =
    let at_number_at = (goal.at.slice_bounds-listed-start c).After-number_at in
    omega (arith, sized at_number_at, c.requires.0.numbered)

pub slice_bounds-listed-end : goal.slice_bounds-listed-end
slice_bounds-listed-end c =
    let at_number_at = (goal.at.slice_bounds-listed-end c).After-number_at in
    omega (arith, sized at_number_at, c.requires.0.whole, length-drop c.args.from.place c.args.dual.now)

pub copy_numbers-requires : goal.copy_numbers-requires
copy_numbers-requires c =
    let at_number_at = (goal.at.copy_numbers-requires c).After-number_at in
    let a = c.args in
    let n = ap length (listed at_number_at) in
    let k = length-set a.numbers.now a.from.at (2 * (length (part at_number_at) / 2)) in
    omega (arith, c.requires.1)

pub returns : goal.returns
returns c =
    let at_number_at = (goal.at.returns c).After-number_at in
    let a = c.args in
    let e = sized at_number_at in
    let n = sym (count_numbers (part at_number_at)) ∙ ap length (listed at_number_at) in (
      omega arith,
      (
        omega arith,
        c.copy_numbers.ensures ∙ clause_laid (part at_number_at) (listed_in (bytes at_number_at)) a.numbers.now a.from.at (listed at_number_at) c.requires.1,
      ),
    )
