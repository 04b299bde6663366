-- What has to unfold, besides what `steps` says, for a search with held faults to be computed: a theorem says `unfolding holding`.
use Rattle.lanes.specs.Lanes.{lane_bit}
use Rattle.held.specs.Masks.{shared_at, share, unlisted_at, unlisted, masks_tested, keeps, agrees_at, agrees}
use Rattle.held.specs.HeldProblem.{held_explains, held_rounds}
use Rattle.held.specs.HeldCalls.{unfit, spoilt_search_by, held_answer}

unfoldable pub holding : Unit {0}
unfolding lane_bit shared_at share unlisted_at unlisted masks_tested keeps agrees_at agrees held_explains held_rounds unfit spoilt_search_by held_answer
holding = tt
