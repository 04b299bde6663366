-- An accepted file, with what was made of it before its dual is written.
use Rattle.dual_writer.specs.declared.entries.Source.{Source}
use Rattle.dual_writer.specs.Chains.{Chained}

-- The chains have its folds.
abbrev pub Stands : Source → Type 0
Stands s = Chained s.file.now s.chains.now
