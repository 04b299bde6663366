-- What has to unfold for a search to be computed: a theorem says `unfolding computing`.
use Rattle.papers.specs.Tests.{◌and◌, ◌or◌}
use Rattle.steps.specs.Explanations.{part_digit, part_of, some_below, lesser, minimal, minimals, stop, sum_below}
use Rattle.steps.specs.Continuing.{contains_one, new_to, move, step, steps, state_by, continue, stop_from}
use Rattle.steps.specs.Spoilt.{rising, all_below, spoilt_by}
use Rattle.steps.specs.Calls.{answer, calls, tried_by, rounds_by, allowances, unrefused, reports}

-- Minimality and the stopping point,
unfoldable minimality : Unit {0}
unfolding ◌and◌ ◌or◌ part_digit part_of some_below lesser minimal minimals stop sum_below
minimality = tt

-- one call,
unfoldable continuing : Unit {0}
unfolding ◌and◌ ◌or◌ part_digit part_of contains_one new_to move step steps state_by continue stop_from
continuing = tt

-- and a list of calls.
unfoldable pub computing : Unit {0}
unfolding minimality continuing rising all_below spoilt_by answer calls tried_by rounds_by allowances unrefused reports
computing = tt
