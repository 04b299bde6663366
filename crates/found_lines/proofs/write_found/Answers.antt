-- `found_lines::write_found` meets its contract.
use Rattle.papers.specs.Field.{numbers}
use Rattle.decimals.specs.Decimal.{decimal}
use Rattle.found_lines.specs.FoundLine.{found_line, found_word, assumptions}
use Rattle.decimals.proofs.Printing.{printed_append, printed_items}
use Rattle.found_lines.proofs.write_found.Goals as goal

pub returns-clause-line : goal.returns-clause-line
unfolding found_line
returns-clause-line c =
    let a = c.args in
    let items = assumptions (numbers a.abducibles.now) a.scenario in
    let number = rw c.from.ensures at c.put_number.ensures.printed in
    printed_items found_word (decimal a.scenario) items (printed_append c.put_text.ensures number) c.put_assumptions.ensures.items c.put_byte.ensures
