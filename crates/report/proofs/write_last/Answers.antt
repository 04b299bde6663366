-- `report::write_last` meets its contract.
use mathlib.Core.List.{[], ◌∷◌}
use Rattle.decimals.specs.Decimal.{decimal}
use Rattle.report.specs.Lines.{last_line, state_word, tried_word, rounds_word}
use Rattle.decimals.proofs.Putting.{further}
use Rattle.decimals.proofs.Printing.{printed_append, printed_line}
use Rattle.report.proofs.write_last.Goals as goal

pub returns-clause-line : goal.returns-clause-line
unfolding last_line further
returns-clause-line c =
    let a = c.args in
    let items = tried_word ∷ decimal a.tried ∷ rounds_word ∷ decimal a.rounds ∷ [] in
    let word = rw c.state_word.ensures.word at c.put_text.ensures in
    let end = printed_append c.put_text-3.ensures (printed_append c.put_number-2.ensures.printed c.put_byte.ensures) in
    let middle = printed_append c.put_text-2.ensures (printed_append c.put_number.ensures.printed end) in
    printed_line (state_word a.state) items (printed_append word middle)
