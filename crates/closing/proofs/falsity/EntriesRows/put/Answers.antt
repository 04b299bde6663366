-- `closing::falsity::Entries::put` meets its contract.
use mathlib.Core.Path.{ap, ◌∙◌}
use mathlib.Core.Bool.{Bool}
use native.Mathlib.Omega.{arith}
use lib.Bits.{bit_and}
use lib.ListN.{get_or}
use Rattle.papers.specs.Tests.{◌and◌}
use Rattle.lanes.specs.Lanes.{lane_bit}
use Rattle.lanes.proofs.LaneLaws.{lane_and}
use Rattle.rows.specs.Rows.{entry_row}
use Rattle.closing.proofs.DroppedLaws.{entry_goes_on}
use Rattle.closing.proofs.falsity.EntriesRows.put.Goals as goal

pub objective_in-o-requires : goal.objective_in-o-requires
unfolding entry_row
objective_in-o-requires c = let w = c.requires.stands.within in omega arith

pub returns-clause-does : goal.returns-clause-does
returns-clause-does c =
    let a = c.args in
    let o = c.objective_in-o.ensures in
    let old = get_or a.falses.now (get_or a.self.now.rows.now a.place 0) 0 in
    let others = rw o at c.other_lanes.ensures in
    record {
      lanes = bit_and old c.other_lanes.result;
      word = c.entry_word-word.result;
      asked = λ l h. lane_and l old c.other_lanes.result ∙ ap (λ (b : Bool). lane_bit l old and b) (others.at l h);
      holds = rw o at c.entry_word-word.ensures;
      is = rw o;
      told = rw o;
    }

pub returns-clause-goes_on : goal.returns-clause-goes_on
returns-clause-goes_on c = entry_goes_on c.requires c.told-falses (returns-clause-does c)
