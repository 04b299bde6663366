-- `stepping::digitwise::contains_one` meets its contract: the library's answer.
use mathlib.Core.Path.{◌∙◌}
use borrow.Author.Rules.{rules}
use borrow.Author.Tests.{tests}
use Rattle.std.proofs.lemmas.Iterator.{YieldsList-from_slice}
use Rattle.std.proofs.lemmas.Iterator.Search.{any_from_yields_List}
use Rattle.steps.specs.Explanations.{part_of}
use Rattle.stepping.proofs.PartLoops.{contains_answer}
use Rattle.stepping.proofs.digitwise.contains_one.Goals as goal

pub returns : goal.returns
returns c =
    let a = c.args in
    any_from_yields_List (λ x. part_of a.k x a.s) _ _ _ c.any.ensures.ran (YieldsList-from_slice _ (cc)) (λ x b q k. search (rules, tests))
    ∙ contains_answer a.k a.s a.entries.now
