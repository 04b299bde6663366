-- `digits::abducible_lanes` meets its contract. The loop's invariant: the abducibles behind have their words.
use mathlib.Core.Path.{◌≡◌, refl, ap, ◌∙◌}
use mathlib.Core.List.{List, ◌++◌}
use Prim.Native.Nat.{ℕ, ◌+◌, ◌-◌, ◌*◌, ◌≤◌, ◌<◌}
use native.Mathlib.Omega.{arith}
use lib.ListN.{length, take, drop}
use Rattle.std.specs.Slice.Iter.{chunks_exact_rest, chunks_exact_size}
use Rattle.literals.specs.Numbering.{negative}
use Rattle.papers.specs.declared.Contents.{Contents}
use Rattle.papers.specs.Reading.{read_file, program_in}
use Rattle.papers.specs.Answers.{contents_of}
use Rattle.papers.specs.Told.{tells, read_told}
use Rattle.papers.specs.Valid.{Valid}
use Rattle.papers.specs.Field.{numbers}
use Rattle.papers.proofs.NumberLaws.{Bytes}
use Rattle.papers.proofs.FoldsWalked.{abducibles_there}
use Rattle.papers.proofs.FileFacts.{atoms_are, abducibles_are, few_atoms_lem, program_valid}
use Rattle.digits.proofs.ClearedWords.{cleared as cleared-of}
use Rattle.digits.proofs.SeedLaws.{seeding_none, seeding_below, seeding_bounded, seeding_more, seeding_ends}
use Rattle.digits.proofs.abducible_lanes.Goals as goal
use Rattle.digits.proofs.abducible_lanes.Goals.{After-atom_at-atom}

-- ---- what the file says

module _ (file : List ℕ) (contents : Contents) (answer : read_told contents_of (read_file file) ≡ tells contents) where
  few : contents.abducibles ≤ 16
  few = omega (arith, abducibles_are file contents answer, (program_valid file contents answer).few_abducibles)

  there : Bytes file → 12 + 2 * contents.abducibles ≤ length file
  there b = (abducibles_there file contents answer b).0

  listing : Bytes file → numbers (take (12 + 2 * contents.abducibles - 12) (drop 12 file)) ≡ (program_in file).abducibles
  listing b =
      let e : 12 + 2 * contents.abducibles - 12 ≡ 2 * contents.abducibles = omega arith in
      rw e (abducibles_there file contents answer b).1

pub fill_words-requires : goal.fill_words-requires
fill_words-requires c = omega (arith, few_atoms_lem _ _ c.requires.0)

pub fill_words-requires-2 : goal.fill_words-requires-2
fill_words-requires-2 c = omega (arith, few_atoms_lem _ _ c.requires.0)

pub overflow_mul-end : goal.overflow_mul-end
overflow_mul-end c = omega (arith, few _ _ c.requires.0)

pub overflow_add-end : goal.overflow_add-end
overflow_add-end c = omega (arith, few _ _ c.requires.0)

pub slice_bounds-chunks_exact-end : goal.slice_bounds-chunks_exact-end
slice_bounds-chunks_exact-end c = there _ _ c.requires.0 (λ x. (c.type_inv.file x).fits)

pub loop-pair-init : goal.loop-pair-init
loop-pair-init c =
    let x = c.chunks_exact-pair-items.ensures in
    let e = c.into_iter-pair-iterator.ensures.into_iter_gives in (
      ap (λ s. chunks_exact_size s) e ∙ x.size,
      seeding_none _ _
          (ap (λ s. numbers (chunks_exact_rest s)) e ∙ ap numbers x.rest ∙ listing _ _ c.requires.0 (λ x. (c.type_inv.file x).fits))
          (cleared-of c.fill_words.ensures) (cleared-of c.fill_words-2.ensures),
    )

-- ---- once an atom is read

module _ (c : After-atom_at-atom) where
  valid : Valid (program_in c.args.file.now)
  valid = program_valid _ _ c.requires.0

  -- It is the first of those that are left.
  cut : chunks_exact_rest c.loop-pair.pair-iterator ≡ c.in-Some.pair.now ++ chunks_exact_rest c.next.new.self
  cut = c.in-Some.ensures.steps.1.0

  two : length c.in-Some.pair.now ≡ 2
  two = c.in-Some.ensures.steps.1.1 ∙ c.loop-pair.invariant.0

  bounded : (0 < c.loop-pair.power) × (c.loop-pair.power ≤ 43046721)
  bounded = seeding_bounded c.loop-pair.invariant.1 _ _ cut two _ c.atom_at-atom.ensures valid.few_abducibles

  -- So both its literals are judged.
  judged_literals : negative c.atom_at-atom.result.0 < c.judged-judged.result
  judged_literals =
      let a = seeding_below c.loop-pair.invariant.1 _ _ cut two _ c.atom_at-atom.ensures _ valid.abducibles_listed in
      omega (arith, atoms_are _ _ c.requires.0)

pub digit_lanes-words-requires : goal.digit_lanes-words-requires
digit_lanes-words-requires c = bounded (goal.at.digit_lanes-words-requires c).After-atom_at-atom

pub put_words-requires : goal.put_words-requires
put_words-requires c =
    omega (arith, judged_literals (goal.at.put_words-requires c).After-atom_at-atom, few_atoms_lem _ _ c.requires.0)

pub put_words-requires-in-loop-pair : goal.put_words-requires-in-loop-pair
put_words-requires-in-loop-pair c =
    omega (arith, judged_literals (goal.at.put_words-requires-in-loop-pair c).After-atom_at-atom, few_atoms_lem _ _ c.requires.0)

pub overflow_mul-power : goal.overflow_mul-power
overflow_mul-power c = omega (arith, bounded (goal.at.overflow_mul-power c).After-atom_at-atom)

pub loop-pair-preserved : goal.loop-pair-preserved
loop-pair-preserved c =
    let t = (goal.at.loop-pair-preserved c).After-atom_at-atom in
    let words = c.digit_lanes-words in
    let few = few_atoms_lem _ _ c.requires.0 in (
      c.in-Some.ensures.steps.0 ∙ c.loop-pair.invariant.0,
      rw (c.put_words.ensures, c.put_words-in-loop-pair.ensures)
          (seeding_more c.loop-pair.invariant.1 _ _ (cut t) (two t) _ c.atom_at-atom.ensures (valid t).abducibles_rising (judged_literals t) (omega arith)
          words.result.assumed words.result.ruled words.ensures.0 words.ensures.1),
    )

pub returns : goal.returns
returns c =
    let s = c.in-None.ensures.steps.1.0 in
    let size = c.loop-pair.invariant.0 in
    seeding_ends c.loop-pair.invariant.1 (program_in c.args.file.now) (omega (arith, atoms_are _ _ c.requires.0)) refl (omega arith)
    (cleared-of c.fill_words.ensures) (cleared-of c.fill_words-2.ensures)
