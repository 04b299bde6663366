-- `spoilt::is_spoilt` meets its contract: a law of test 14 for each return.
use mathlib.Core.Path.{◌≡◌, sym, ap, ◌∙◌}
use mathlib.Core.Bool.{not}
use native.Mathlib.Omega.{arith}
use borrow.Author.Rules.{rules}
use borrow.Author.Tests.{tests}
use lib.Dec.{ltb}
use lib.ListN.{take}
use Rattle.std.proofs.lemmas.Iterator.{YieldsList-from_slice}
use Rattle.std.proofs.lemmas.Iterator.Search.{all_from_yields_List}
use Rattle.std.proofs.lemmas.List.Sorted.{answers_always}
use Rattle.steps.specs.Spoilt.{rising, all_below}
use Rattle.spoilt.proofs.SpoiltLaws.{rising_answer, below_answer, spoilt_position, spoilt_found, spoilt_rising, spoilt_below}
use Rattle.spoilt.proofs.is_spoilt.Goals as goal
use Rattle.spoilt.proofs.is_spoilt.Goals.{After-is_sorted_by, then-position-total-via-then-position-total}
use Rattle.spoilt.proofs.is_spoilt.Goals.{then-position-total-via-else-position-total+then-count-list}

pub returns-then-position-total : goal.returns-then-position-total
returns-then-position-total c = elim c.then-position-total.branch [
  | then-position-total-via-then-position-total w ↦ sym (spoilt_position _ _ _ w.if-position-total.true)
  | then-position-total-via-else-position-total+then-count-list w ↦ sym (spoilt_found _ _ _ w.if-count-list.true)
]

-- Whether the found entries rise.
rises : (c : After-is_sorted_by) → c.is_sorted_by.result ≡ rising 0 (take c.args.found c.args.list.now)
rises c = rising_answer _ _ (c.is_sorted_by.ensures.cases ltb (answers_always _ _ _ (search (rules, tests))))

pub returns-then-not-is_sorted_by : goal.returns-then-not-is_sorted_by
returns-then-not-is_sorted_by c =
    let rise = rises (goal.at.returns-then-not-is_sorted_by c).After-is_sorted_by in
    ap not c.if-not-is_sorted_by.true ∙ sym (spoilt_rising _ _ _ (sym rise ∙ c.if-not-is_sorted_by.true))

pub returns-else-not-is_sorted_by : goal.returns-else-not-is_sorted_by
returns-else-not-is_sorted_by c =
    let rise = rises (goal.at.returns-else-not-is_sorted_by c).After-is_sorted_by in
    let below : c.all.result ≡ all_below c.args.position (take c.args.found c.args.list.now) =
    all_from_yields_List (λ x. ltb x c.args.position) _ _ _ c.all.ensures.ran (YieldsList-from_slice _ (cc)) (λ x b q k. search (rules, tests))
    ∙ below_answer _ _
    in
    ap not below ∙ sym (spoilt_below _ _ _ (omega arith) (omega arith) (sym rise ∙ c.if-not-is_sorted_by.false))
