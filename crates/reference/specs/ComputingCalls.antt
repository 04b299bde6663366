-- What has to unfold for a reference call to be computed: a theorem says `unfolding computing`.
use Rattle.papers.specs.ComputingPapers.{encoding, reading}
use Rattle.dual.specs.TableEncoding.{encode_fields, encode_dual}
use Rattle.model.specs.ComputingModels.{modelling, fields, falsity}
use Rattle.steps.specs.ComputingSearches.{computing as searching}
use Rattle.held.specs.ComputingHeld.{holding}
use Rattle.fresh.specs.Beginning.{masks_told, fresh_told}

-- The dual,
unfoldable duality : Unit {0}
unfolding encoding fields encode_fields encode_dual
duality = tt

-- and this, with the papers, the model, falsity from the dual, and the search with its held faults.
unfoldable pub computing : Unit {0}
unfolding reading duality modelling falsity searching holding masks_told fresh_told
computing = tt
