-- `trying::Search::try_batch` meets its contract.
use mathlib.Core.Path.{◌∙◌, ap}
use Prim.Native.Nat.{ℕ, ◌^◌}
use Rattle.settling.proofs.DecodedLaws.{decoded_abducibles}
use Rattle.trying.proofs.Batches.{tried_lanes}
use Rattle.trying.proofs.Search.try_batch.Goals as goal

pub try_lanes-requires : goal.try_lanes-requires
try_lanes-requires c =
    let ready = c.requires.0 in
    record {
      scenarios = ready.scenarios ∙ ap (λ (n : ℕ). 3 ^ n) (decoded_abducibles ready.prepared.file_in);
      kept = ready.kept;
      lanes = c.requires.1;
      room = ready.room;
      cost = c.judge_agreeing-verdicts.ensures.cost;
    }

pub returns : goal.returns
returns c = tried_lanes c.try_lanes.ensures c.judge_agreeing-verdicts.ensures.lanes
