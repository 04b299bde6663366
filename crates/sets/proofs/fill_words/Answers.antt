-- `sets::fill_words` meets its contract.
use mathlib.Core.Path.{◌∙◌, ◌≡◌}
use native.Mathlib.Omega.{arith}
use lib.ListN.{length-append, length-drop, length-replicate, replicate}
use lib.Seq.{length-take-le}
use Rattle.sets.proofs.WritingLaws.{filled}
use Rattle.sets.proofs.fill_words.Goals as goal

pub returns : goal.returns
returns c =
    let a = c.args in
    let size = length-take-le a.count a.words.now (omega arith) in
    let is : c.fill.new.self ≡ replicate a.count a.word = c.fill.ensures.after (λ y e. e) ∙ rw size in
    rw is (filled a.count a.word a.words.now, simp (length-append, length-replicate, length-drop) (omega arith))
