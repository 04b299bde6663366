-- `stepping::decide` meets its contract: a law of decisions for each return.
use mathlib.Core.Path.{sym, ◌∙◌}
use native.Mathlib.Omega.{arith}
use Rattle.stepping.proofs.Decisions.{decided_end, decided_dull, decided_listed, decided_new, decided_full}
use Rattle.stepping.proofs.decide.Goals as goal
use Rattle.stepping.proofs.decide.Goals.{then-not-new-via-then-not-new, then-not-new-via-else-not-new+then-contains_one}

pub returns-then-position-total : goal.returns-then-position-total
returns-then-position-total c = decided_end (omega arith)

pub returns-then-not-new : goal.returns-then-not-new
returns-then-not-new c = elim c.then-not-new.branch [
  | then-not-new-via-then-not-new w ↦ decided_dull (omega arith) (λ e. omega arith) w.if-not-new.true
  | then-not-new-via-else-not-new+then-contains_one w ↦
      decided_listed (omega arith) (λ e. omega arith) w.if-not-new.false (sym w.contains_one.ensures ∙ w.if-contains_one.true)
]

pub returns-then-found-list : goal.returns-then-found-list
returns-then-found-list c =
    decided_new (omega arith) (λ e. omega arith) c.if-not-new.false
    (sym c.contains_one.ensures ∙ c.if-contains_one.false) c.if-found-list.true

pub returns : goal.returns
returns c =
    decided_full (omega arith) (λ e. omega arith) c.if-not-new.false
    (sym c.contains_one.ensures ∙ c.if-contains_one.false) c.if-found-list.false
