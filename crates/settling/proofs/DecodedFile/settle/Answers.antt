-- `settling::DecodedFile::settle` meets its contract: P is what F leaves.
use mathlib.Core.Path.{refl}
use Rattle.papers.specs.Reading.{program_in}
use Rattle.papers.proofs.Lists.{get_or_zeros}
use Rattle.settling.proofs.SettlingLaws.{held}
use Rattle.settling.proofs.DecodedFile.settle.Goals as goal

pub returns : goal.returns
returns c =
    let settled = c.settle_words-rounds.ensures in
    let left = c.possible_words.ensures in (
      settled.0,
      held (program_in c.args.self.now.file.now) c.args.base refl settled.0 settled.1.0 settled.1.1 left.1
          (record { at = λ o h. get_or_zeros 513 o }) left.0,
    )
