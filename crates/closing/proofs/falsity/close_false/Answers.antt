-- `closing::falsity::close_false` meets its contract.
use native.Mathlib.Omega.{arith}
use Rattle.closing.proofs.EntriesVisited.{visits_judged, entries_visited, entries_parted}
use Rattle.closing.proofs.FalseSettled.{settled_drops}
use Rattle.closing.proofs.ClosingFalse.{closing_done}
use Rattle.closing.proofs.falsity.close_false.Goals as goal

pub fill_words-requires : goal.fill_words-requires
fill_words-requires c = let pre = c.requires in omega (arith, pre.valid.few_atoms, visits_judged pre)

pub settle-requires : goal.settle-requires
settle-requires c = (entries_visited c.requires).at

pub returns : goal.returns
returns c =
    closing_done c.requires c.fill_words.ensures.0
    (settled_drops _ _ _ _ _ (entries_visited c.requires) (entries_parted c.requires) c.fill_words.ensures.1 c.settle.ensures)
