-- `content::check_abducibles` meets its contract. The loop's invariant: what is asked of all atoms is asked of those that are left.
use mathlib.Core.Path.{sym, ap, ◌∙◌}
use native.Mathlib.Omega.{arith}
use Rattle.std.specs.Slice.Iter.{chunks_exact_rest, chunks_exact_size}
use Rattle.papers.specs.Field.{numbers}
use Rattle.papers.specs.Content.{abducibles_fault}
use Rattle.papers.specs.Told.{check_told}
use Rattle.papers.proofs.NumbersWalked.{abducibles_done, abducibles_unlisted, abducibles_disorder, abducibles_next}
use Rattle.content.proofs.check_abducibles.Goals as goal

pub loop-pair-init : goal.loop-pair-init
loop-pair-init c =
    let x = c.chunks_exact-pair-items.ensures in
    let e = c.into_iter-pair-iterator.ensures.into_iter_gives in
    (ap (λ s. chunks_exact_size s) e ∙ x.size, ap (λ l. abducibles_fault c.args.atoms 0 (numbers l)) (sym (ap (λ s. chunks_exact_rest s) e ∙ x.rest)))

pub atom_at-requires : goal.atom_at-requires
atom_at-requires c = let two = c.in-Some.ensures.steps.1.1 ∙ c.loop-pair.invariant.0 in omega arith

pub returns-then-from-atom : goal.returns-then-from-atom
unfolding check_told
returns-then-from-atom c =
    let s = c.in-Some.ensures.steps in
    let past = c.if-from-atom.true in
    let n = c.from.ensures in
    sym
    (c.loop-pair.invariant.1
    ∙ abducibles_unlisted c.args.atoms _ _ _ s.1.0 (s.1.1 ∙ c.loop-pair.invariant.0) (c.from-atom.ensures ∙ c.atom_at.ensures) _ (omega arith))

pub returns-then-atom-least : goal.returns-then-atom-least
unfolding check_told
returns-then-atom-least c =
    let s = c.in-Some.ensures.steps in
    let below = c.if-from-atom.false in
    let n = c.from.ensures in
    sym
    (c.loop-pair.invariant.1
    ∙ abducibles_disorder c.args.atoms _ _ _ s.1.0 (s.1.1 ∙ c.loop-pair.invariant.0) (c.from-atom.ensures ∙ c.atom_at.ensures) _ (omega arith)
    c.if-atom-least.true)

pub loop-pair-preserved : goal.loop-pair-preserved
loop-pair-preserved c =
    let s = c.in-Some.ensures.steps in
    let below = c.if-from-atom.false in
    let n = c.from.ensures in (
      s.0 ∙ c.loop-pair.invariant.0,
      c.loop-pair.invariant.1
          ∙ abducibles_next c.args.atoms _ _ _ s.1.0 (s.1.1 ∙ c.loop-pair.invariant.0) (c.from-atom.ensures ∙ c.atom_at.ensures) _ (omega arith)
          c.if-atom-least.false,
    )

pub returns : goal.returns
unfolding check_told
returns c =
    let ends = c.in-None.ensures.steps.1.0 in
    let size = c.loop-pair.invariant.0 in
    sym (c.loop-pair.invariant.1 ∙ abducibles_done c.args.atoms _ (omega arith) _)
