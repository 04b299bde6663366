-- `settling::DecodedFile::settle_words` meets its contract. The loop's invariant: in each lane the interpretation of the last round, and what of the
-- next is at hand.
use native.Mathlib.Omega.{arith}
use Rattle.papers.specs.Reading.{program_in}
use Rattle.settling.proofs.SettlingLaws.{settling_start, settling_next}
use Rattle.settling.proofs.DecodedFile.settle_words.Goals as goal

pub loop-abducible-init : goal.loop-abducible-init
loop-abducible-init c = settling_start (program_in c.args.self.now.file.now) c.args.base c.requires.1 c.requires.2 _ _

pub loop-abducible-preserved : goal.loop-abducible-preserved
loop-abducible-preserved c =
    let changed = c.lanes-in-loop-abducible in
    settling_next (program_in c.args.self.now.file.now) c.args.base (rw c.from.ensures at c.abducible_lanes.ensures.0)
    c.loop-abducible.invariant c.next_round-moved.ensures (rw (← changed.ensures) (omega arith)) (rw changed.ensures at c.mark_lanes.ensures)
