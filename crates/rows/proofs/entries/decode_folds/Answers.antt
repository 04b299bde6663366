-- `rows::entries::decode_folds` meets its contract. The loop's invariant: the clauses of the first folds are written, and the others' fields stand at
-- the place, for whichever objective literal has these folds there.
use native.Mathlib.Omega.{arith}
use mathlib.Core.Path.{◌≡◌}
use Prim.Native.Nat.{◌<◌}
use lib.ListN.{length}
use Rattle.papers.specs.Program.{Program}
use Rattle.papers.specs.Reading.{program_in}
use Rattle.dual.specs.Table.{folds_of}
use Rattle.rows.proofs.FoldRows.{folds_none, folds_stand, folds_room, folds_more, folds_all}
use Rattle.rows.proofs.entries.decode_folds.Invariants.{Given}
use Rattle.rows.proofs.entries.decode_folds.Goals as goal
use Rattle.rows.proofs.entries.decode_folds.Goals.{At-loop}

module _ (c : At-loop) where
  abbrev program : Program
  program = program_in c.args.file.now

  given : Given program c.args.dual.now c.args.o.0 c.args.from.place c.args.folds c.args.from.at c.args.numbers.now
  given = record { stand = c.requires.0; counted = c.requires.1.0; room = c.requires.1.1 }

pub loop-init : goal.loop-init
loop-init c =
    let a = c.args in
    λ o g. folds_none (program_in a.file.now) a.dual.now o a.from.at a.numbers.now g.room a.from.place g.stand

pub decode_fold-reached-requires : goal.decode_fold-reached-requires
decode_fold-reached-requires c =
    let at_loop = (goal.at.decode_fold-reached-requires c).At-loop in
    let a = c.args in
    let l = c.loop in
    let g = given at_loop in
    let t = l.invariant a.o.0 g in
    let p = program at_loop in
    let h : l.counter < length (folds_of p a.o.0) = omega (arith, g.counted) in (
      folds_stand p a.dual.now a.o.0 a.from.at a.numbers.now g.room l.counter l.reached.place l.reached.at l.numbers t h,
      folds_room p a.dual.now a.o.0 a.from.at a.numbers.now g.room l.counter l.reached.place l.reached.at l.numbers t h,
    )

pub loop-preserved : goal.loop-preserved
loop-preserved c =
    let p = program (goal.at.loop-preserved c).At-loop in
    let a = c.args in
    let l = c.loop in
    let r = c.decode_fold-reached in
    λ o g.
    let h : l.counter < length (folds_of p o) = omega (arith, g.counted) in
    folds_more p a.dual.now o a.from.at a.numbers.now g.room l.counter l.reached.place l.reached.at l.numbers (l.invariant o g) h
    r.result.place r.result.at r.new.numbers r.ensures.0 r.ensures.1.0 r.ensures.1.1 r.auto.numbers

pub returns : goal.returns
returns c =
    let at_loop = (goal.at.returns c).At-loop in
    let a = c.args in
    let l = c.loop in
    let g = given at_loop in
    let e : l.counter ≡ a.folds = omega arith in
    folds_all (program at_loop) a.dual.now a.o.0 a.from.at a.numbers.now g.room l.counter l.reached.place l.reached.at l.numbers
    (l.invariant a.o.0 g) (omega (arith, g.counted))
