-- `held::is_spoilt_search` meets its contract: by the record, or by the masks.
use mathlib.Core.Path.{sym, ap, ◌∙◌}
use Rattle.held.specs.HeldCalls.{unfit}
use Rattle.held.proofs.SearchTests.{spoilt_record, spoilt_masks, err_unfit}
use Rattle.held.proofs.is_spoilt_search.Goals as goal

pub returns-then-is_spoilt : goal.returns-then-is_spoilt
returns-then-is_spoilt c = c.if-is_spoilt.true ∙ sym (spoilt_record _ _ _ _ (sym c.is_spoilt.ensures ∙ c.if-is_spoilt.true))

pub returns-else-is_spoilt : goal.returns-else-is_spoilt
returns-else-is_spoilt c =
    let unspoilt = sym c.is_spoilt.ensures ∙ c.if-is_spoilt.false in
    c.is_err.ensures.value ∙ err_unfit _ ∙ ap unfit c.test_masks.ensures ∙ sym (spoilt_masks _ _ _ _ unspoilt)
