-- `settling::DecodedFile::settle_words` meets its contract. The loop's invariant: in each lane the interpretation of the last round, and what of the
-- next is at hand.
use Prim.Native.Nat.{◌-◌}
use Rattle.papers.specs.Reading.{program_in}
use Rattle.settling.proofs.SettlingLaws.{Settling}
use Rattle.settling.proofs.DecodedFile.settle_words.Given as goal

abbrev pub invariant-loop-abducible : goal.invariant-loop-abducible
invariant-loop-abducible l =
    Settling (program_in l.self.file.now) l.base l.round l.held.t l.held.f l.next.t l.next.f l.moved l.rounds

abbrev pub decreases-loop-abducible : goal.decreases-loop-abducible
decreases-loop-abducible l = 1027 - l.round
