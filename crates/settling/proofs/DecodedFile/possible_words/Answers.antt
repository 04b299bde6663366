-- `settling::DecodedFile::possible_words` meets its contract.
use Rattle.settling.proofs.DecodedFile.possible_words.Goals as goal

pub returns : goal.returns
returns c = (rw c.judged.ensures at c.complement_words.ensures, record { many = c.told-f; fits = c.fits-f })
