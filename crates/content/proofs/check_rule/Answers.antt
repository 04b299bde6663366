-- `content::check_rule` meets its contract.
use mathlib.Core.Path.{◌≡◌, sym, ap, ◌∙◌}
use mathlib.Core.Bool.{true}
use mathlib.Core.List.{List}
use Prim.Native.Nat.{ℕ, ◌*◌, ◌/◌, ◌<◌}
use Rattle.papers.specs.Field.{numbers}
use Rattle.papers.specs.Content.{is_among, literals_fault}
use Rattle.papers.specs.Told.{check_told}
use Rattle.papers.proofs.NumbersWalked.{to_end, rule_unlisted, rule_fixed, rule_body}
use Rattle.conjugates.proofs.ConjugateLaws.{atom_tells, no_atom_tells}
use Rattle.content.proofs.check_rule.Goals as goal
use Rattle.content.proofs.check_rule.Goals.{After-is_among}

-- ---- once its atom is looked for among the abducibles

module _ (c : After-is_among) where
  abbrev head : ℕ
  head = c.objective_at.result.0

  -- The head is listed, and the atom looked for is its own.
  owned : (head < 2 * c.args.atoms) × (c.in-Some.atom.0 ≡ head / 2)
  owned = atom_tells c.args.atoms head (sym c.atom_of.ensures ∙ c.in-Some.is)

  among : c.is_among.result ≡ is_among (numbers c.args.abducibles.now) (head / 2)
  among = rw (← owned.1) c.is_among.ensures

pub returns-in_default : goal.returns-in_default
unfolding check_told
returns-in_default c =
    let a = c.args in
    let past = no_atom_tells a.atoms c.objective_at.result.0 (sym c.atom_of.ensures ∙ c.in_default.is) in
    sym (rule_unlisted a.atoms _ a.content.now c.requires c.objective_at.ensures.0 past)

pub returns-then-is_among : goal.returns-then-is_among
unfolding check_told
returns-then-is_among c =
    sym
    (rule_fixed c.args.atoms _ c.args.content.now c.requires c.objective_at.ensures.0 (owned (goal.at.returns-then-is_among c).After-is_among).0
    (sym (among (goal.at.returns-then-is_among c).After-is_among) ∙ c.if-is_among.true))

pub returns : goal.returns
returns c =
    c.check_literals.ensures
    ∙ ap (λ (l : List ℕ). literals_fault true c.args.atoms (numbers l)) (to_end 2 c.args.content.now)
    ∙ sym
    (rule_body c.args.atoms _ c.args.content.now c.requires c.objective_at.ensures.0 (owned (goal.at.returns c).After-is_among).0
    (sym (among (goal.at.returns c).After-is_among) ∙ c.if-is_among.false))
