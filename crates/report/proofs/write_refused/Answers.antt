-- `report::write_refused` meets its contract.
use mathlib.Core.List.{[], ◌∷◌}
use Rattle.decimals.specs.Decimal.{decimal}
use Rattle.report.specs.Lines.{refused_line, refused_word, paper_word}
use Rattle.decimals.proofs.Putting.{further}
use Rattle.decimals.proofs.Printing.{printed_append, printed_line}
use Rattle.report.proofs.write_refused.Goals as goal

pub returns-clause-line : goal.returns-clause-line
unfolding refused_line further
returns-clause-line c =
    let items = decimal c.args.number ∷ paper_word c.args.paper ∷ decimal c.args.place ∷ [] in
    let word = rw c.paper_word.ensures.word at c.put_text-3.ensures in
    let end = printed_append c.put_text-4.ensures (printed_append c.put_number-2.ensures.printed c.put_byte.ensures) in
    let middle = printed_append c.put_text-2.ensures (printed_append word end) in
    let number = rw c.from.ensures at c.put_number.ensures.printed in
    printed_line refused_word items (printed_append c.put_text.ensures (printed_append number middle))
