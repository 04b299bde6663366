-- Document 01's own lines, computed. Assumes nothing.
use mathlib.Core.Path.{◌≡◌, refl}
use Rattle.papers.specs.declared.Paper.TheVariants.{Sheet}
use Rattle.steps.specs.declared.State.TheVariants.{Ended}
use Rattle.decimals.specs.Decimal.{digits, decimal}
use Rattle.decimals.specs.Text.{ascii, spaced, line}
use Rattle.report.specs.Lines.{state_word, paper_word, heading_line, last_line, refused_line}

pub heading : heading_line 2 1 3 ≡ ascii "atoms 2 abducibles 1 scenarios 3\n"
unfolding heading_line line spaced decimal digits
heading = refl

pub ended : last_line Ended 3 3 ≡ ascii "ended tried 3 rounds 3\n"
unfolding last_line state_word line spaced decimal digits
ended = refl

pub refused : refused_line (record { number = 6; paper = Sheet; place = 0 }) ≡ ascii "refused 6 sheet 0\n"
unfolding refused_line paper_word line spaced decimal digits
refused = refl
