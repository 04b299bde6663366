-- `rows::entries::is_entered` meets its contract.
use mathlib.Core.Path.{◌≡◌, sym, ap, ◌∙◌}
use borrow.Author.Tests.{eq-eqb, eqb-true}
use Rattle.std.proofs.Common.{Some}
use Rattle.rows.proofs.EntryBytes.{literal_is, literal_none}
use Rattle.rows.proofs.entries.is_entered.Goals as goal

pub returns-then-dual-place-eq8 : goal.returns-then-dual-place-eq8
returns-then-dual-place-eq8 c =
    let read = c.objective_at.ensures.0 in
    let is = literal_is c.args.dual.now c.args.place c.if-dual-place-eq8.true in (
      λ t. is ∙ ap Some (sym read ∙ eqb-true _ _ t),
      λ e. let same : c.objective_at.result.0 ≡ c.args.o.0 = cc in eq-eqb _ _ same,
    )

pub returns-else-dual-place-eq8 : goal.returns-else-dual-place-eq8
returns-else-dual-place-eq8 c =
    let none = literal_none c.args.dual.now c.args.place c.if-dual-place-eq8.false in (
      λ t. absurd (c.if-dual-place-eq8.false (eqb-true _ _ t)),
      λ e. cc,
    )
