-- `folds::RuleFile::fold_count` meets its contract.
use native.Mathlib.Omega.{arith}
use Rattle.papers.proofs.FoldsWalked.{rules_counted, few_folds}
use Rattle.folds.proofs.RuleFile.fold_count.Goals as goal

pub overflow_add-result : goal.overflow_add-result
overflow_add-result c = let file = c.args.self.now in omega (arith, few_folds file.bytes.now file.contents file.walked.answer)

pub returns : goal.returns
returns c = let file = c.args.self.now in rules_counted file.bytes.now file.contents file.walked.answer
