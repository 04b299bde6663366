-- `report::write_heading` meets its contract.
use mathlib.Core.List.{[], ◌∷◌}
use Rattle.decimals.specs.Decimal.{decimal}
use Rattle.report.specs.Lines.{heading_line, atoms_word, abducibles_word, scenarios_word}
use Rattle.decimals.proofs.Putting.{further}
use Rattle.decimals.proofs.Printing.{printed_append, printed_line}
use Rattle.report.proofs.write_heading.Goals as goal

pub returns-clause-line : goal.returns-clause-line
unfolding heading_line further
returns-clause-line c =
    let a = c.args in
    let items = decimal a.atoms ∷ abducibles_word ∷ decimal a.abducibles ∷ scenarios_word ∷ decimal a.scenarios ∷ [] in
    let end = printed_append c.put_text-3.ensures (printed_append c.put_number-3.ensures.printed c.put_byte.ensures) in
    let middle = printed_append c.put_text-2.ensures (printed_append c.put_number-2.ensures.printed end) in
    printed_line atoms_word items (printed_append c.put_text.ensures (printed_append c.put_number.ensures.printed middle))
