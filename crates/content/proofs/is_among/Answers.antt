-- `content::is_among` meets its contract. The loop's invariant: what is asked of all abducibles is asked of those that are left.
use mathlib.Core.Path.{sym, ap, ◌∙◌}
use native.Mathlib.Omega.{arith}
use borrow.Author.Tests.{eqb-true, eqb-false}
use Rattle.std.specs.Slice.Iter.{chunks_exact_rest, chunks_exact_size}
use Rattle.papers.specs.Field.{numbers}
use Rattle.papers.specs.Content.{is_among}
use Rattle.papers.proofs.NumbersWalked.{among_done, among_stop, among_next}
use Rattle.content.proofs.is_among.Goals as goal

pub loop-pair-init : goal.loop-pair-init
loop-pair-init c =
    let x = c.chunks_exact-pair-items.ensures in
    let e = c.into_iter-pair-iterator.ensures.into_iter_gives in
    (ap (λ s. chunks_exact_size s) e ∙ x.size, ap (λ l. is_among (numbers l) c.args.atom.0) (sym (ap (λ s. chunks_exact_rest s) e ∙ x.rest)))

pub atom_at-requires : goal.atom_at-requires
atom_at-requires c = let two = c.in-Some.ensures.steps.1.1 ∙ c.loop-pair.invariant.0 in omega arith

pub returns-then-eq : goal.returns-then-eq
returns-then-eq c =
    let s = c.in-Some.ensures.steps in
    sym
    (c.loop-pair.invariant.1
    ∙ among_stop c.args.atom.0 _ _ _ s.1.0 (s.1.1 ∙ c.loop-pair.invariant.0) c.atom_at.ensures (eqb-true _ _ (sym c.eq.ensures ∙ c.if-eq.true)))

pub loop-pair-preserved : goal.loop-pair-preserved
loop-pair-preserved c =
    let s = c.in-Some.ensures.steps in
    let other = eqb-false _ _ (sym c.eq.ensures ∙ c.if-eq.false) in (
      s.0 ∙ c.loop-pair.invariant.0,
      c.loop-pair.invariant.1 ∙ among_next c.args.atom.0 _ _ _ s.1.0 (s.1.1 ∙ c.loop-pair.invariant.0) c.atom_at.ensures other,
    )

pub returns : goal.returns
returns c =
    let ends = c.in-None.ensures.steps.1.0 in
    let size = c.loop-pair.invariant.0 in
    sym (c.loop-pair.invariant.1 ∙ among_done c.args.atom.0 _ (omega arith))
