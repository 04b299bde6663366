-- `folds::fold_places` meets its contract. The loop's invariant: the places of the folds passed are written, and the next is at hand.
use lib.ListN.{length, get_or, take, drop, replicate, length-replicate, get_or-append}
use lib.Seq.{length-take-le}
use Rattle.std.proofs.lemmas.List.{get_or-drop, get_or-append_right}
use Rattle.papers.proofs.Lists.{set_more, get_or_zeros}
use mathlib.Core.Path.{◌≡◌, sym, ◌∙◌}
use mathlib.Core.List.{List, ◌++◌}
use Prim.Native.Nat.{ℕ, ◌+◌, ◌-◌, ◌≤◌, ◌<◌}
use native.Mathlib.Omega.{arith}
use Rattle.papers.specs.Program.{all_rules}
use Rattle.papers.specs.Reading.{program_in}
use Rattle.papers.specs.Places.{fold_place}
use Rattle.papers.proofs.FoldsWalked.{rules_counted, few_folds, first_place, fold_heading, next_place}
use Rattle.folds.proofs.fold_places.Goals as goal
use Rattle.folds.proofs.fold_places.Goals.{Start, At-loop-slot}

-- ---- zeros, of which the first so many are written

abbrev zeros : List ℕ
zeros = replicate 1280 0

module _ (count : ℕ) (few : count ≤ 1280) where
  part : count ≡ length (take count zeros)
  part = let l = length-replicate {A = ℕ} 1280 0 in sym (length-take-le count zeros (omega arith))

  module _ (items : List ℕ) (written : length items ≡ count) where
    within : (j : ℕ) → j < count → get_or (items ++ drop count zeros) j 0 ≡ get_or items j 0
    within j h = get_or-append items (drop count zeros) 0 j (omega arith)

    beyond : (j : ℕ) → count ≤ j → get_or (items ++ drop count zeros) j 0 ≡ 0
    beyond j h =
        get_or-append_right items (drop count zeros) count j 0 written h
        ∙ get_or-drop count zeros (j - count) 0
        ∙ get_or_zeros 1280 (count + (j - count))

-- ---- what the file says

module _ (c : Start) where
  abbrev count : ℕ
  count = c.args.contents.rules.count + c.args.contents.integrity.count

  few : count ≤ 1280
  few = few_folds c.args.file.now c.args.contents c.requires

  counted : count ≡ length (all_rules (program_in c.args.file.now))
  counted = rules_counted c.args.file.now c.args.contents c.requires

pub overflow_add-count : goal.overflow_add-count
overflow_add-count c = omega (arith, few (goal.at.overflow_add-count c).Start)

pub slice_bounds-places-end : goal.slice_bounds-places-end
slice_bounds-places-end c = few (goal.at.slice_bounds-places-end c).Start

pub slice_bounds-slot-items-end : goal.slice_bounds-slot-items-end
slice_bounds-slot-items-end c = let s = (goal.at.slice_bounds-slot-items-end c).Start in part (count s) (few s)

-- ---- the loop

module _ (c : At-loop-slot) where
  abbrev start : Start
  start = (goal.at.At-loop-slot c).Start

  ends : count start ≡ length (take (count start) zeros)
  ends = part (count start) (few start)

  all : length c.loop-slot.slot-items ≡ count start
  all = c.loop-slot.auto.slot-items ∙ sym ends

pub loop-slot-init : goal.loop-slot-init
loop-slot-init c = (first_place c.args.file.now c.args.contents c.requires, λ j h. absurd (omega arith))

pub field_end-place-requires : goal.field_end-place-requires
field_end-place-requires c =
    let at = (goal.at.field_end-place-requires c).At-loop-slot in
    let here : c.loop-slot.slot-index < count (start at) = rw (ends at) c.loop-slot-test.true in
    let heading = fold_heading c.args.file.now c.args.contents c.requires (λ k. (c.type_inv.file k).fits) c.loop-slot.slot-index here in
    omega (arith, c.loop-slot.invariant.0)

pub loop-slot-preserved : goal.loop-slot-preserved
loop-slot-preserved c =
    let l = c.loop-slot in
    let at = (goal.at.loop-slot-preserved c).At-loop-slot in
    let here : l.slot-index < count (start at) = rw (ends at) c.loop-slot-test.true in
    let place = fold_place (program_in c.args.file.now) in (
      c.field_end-place.ensures
          ∙ next_place c.args.file.now c.args.contents c.requires (λ k. (c.type_inv.file k).fits) l.slot-index here l.invariant.0,
      set_more l.slot-items l.slot-index l.place place (omega (arith, all at)) l.invariant.0 l.invariant.1,
    )

pub returns : goal.returns
returns c =
    let l = c.loop-slot in
    let at = (goal.at.returns c).At-loop-slot in
    let s = start at in
    let past : count s ≤ l.slot-index = rw (ends at) c.loop-slot-test.false in
    record {
      answer = c.requires;
      at = λ fold h. within (count s) (few s) l.slot-items (all at) fold (omega (arith, counted s)) ∙ l.invariant.1 fold (omega (arith, counted s));
      beyond = λ i h. beyond (count s) (few s) l.slot-items (all at) i (omega (arith, counted s));
    }
