-- `settling::DecodedFile::next_false` meets its contract.
use Rattle.papers.specs.Reading.{program_in}
use Rattle.settling.proofs.DecodedLaws.{decoded_atoms, decoded_few}
use Rattle.settling.proofs.RoundLaws.{next_false}
use Rattle.settling.proofs.DecodedFile.next_false.Goals as goal

pub backing_words-requires : goal.backing_words-requires
backing_words-requires c = decoded_few c.requires

pub returns-then-moved-ne0 : goal.returns-then-moved-ne0
returns-then-moved-ne0 c =
    let a = c.args in
    let p = program_in a.self.now.file.now in
    let backing = c.backing_words in
    record {
      anew = λ n.
          next_false p c.requires.decoded.entries_in.valid a.abducible.now.f a.held.now.t a.backing.now backing.new.words a.next.now
          c.close_false.new.falses (rw (← decoded_atoms c.requires) at backing.ensures) c.close_false.ensures;
      left = λ e. absurd (c.if-moved-ne0.true e);
    }
