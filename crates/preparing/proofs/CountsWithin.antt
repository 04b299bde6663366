-- What is counted of prepared papers lies within the arrays that are made for it.
-- Assumes nothing.
use mathlib.Core.Path.{ap}
use mathlib.Core.List.{List}
use Prim.Native.Nat.{ℕ, ◌≤◌}
use native.Mathlib.Omega.{arith}
use Rattle.folds.specs.declared.RuleFile.{RuleFile}
use Rattle.papers.proofs.FoldsWalked.{rules_counted, few_folds}
use Rattle.preparing.specs.declared.Counts.{Counts}
use Rattle.preparing.specs.Preparing.{PapersStand, Prepares}

module _ {file : RuleFile} {dual query rules₀ rules rule-visits₀ rule-visits entries₀ entries entry-visits₀ entry-visits asked₀ asked : List ℕ}
    {counts : Counts} (s : PapersStand file dual query)
    (m : Prepares file.bytes.now query rules₀ rules rule-visits₀ rule-visits entries₀ entries entry-visits₀ entry-visits asked₀ asked counts) where
  pub folds_within : counts.folds ≤ 1280
  folds_within =
      let a = file.walked.answer in
      omega (arith, ap (λ (c : Counts). c.folds) m.counted, few_folds file.bytes.now file.contents a, rules_counted file.bytes.now file.contents a)

  pub judged_within : counts.judged ≤ 513
  judged_within = omega (arith, ap (λ (c : Counts). c.judged) m.counted, s.starts.valid.few_atoms)

  pub asked_within : counts.asked ≤ 16
  asked_within = omega (arith, ap (λ (c : Counts). c.asked) m.counted, s.asked.few)
