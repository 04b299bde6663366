-- `settling::DecodedFile::judged` meets its contract.
use mathlib.Core.Path.{sym, ap, ◌∙◌}
use Rattle.literals.specs.Numbering.{judged}
use Rattle.settling.proofs.DecodedLaws.{decoded_atoms}
use Rattle.settling.proofs.DecodedFile.judged.Goals as goal

pub returns : goal.returns
returns c = c.judged.ensures ∙ ap judged (sym (decoded_atoms c.requires))
