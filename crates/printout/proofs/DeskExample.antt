-- Document 01's own example of the desk program, computed. Assumes nothing.
use mathlib.Core.Path.{◌≡◌, refl, ap, ◌∙◌}
use mathlib.Core.List.{List, [], ◌∷◌}
use Prim.Native.Nat.{ℕ}
use Rattle.papers.specs.Outcome.{accepted}
use Rattle.papers.specs.Reading.{Papers, read_papers}
use Rattle.papers.specs.ComputingPapers.{reading}
use Rattle.model.specs.ComputingModels.{modelling}
use Rattle.steps.specs.ComputingSearches.{computing}
use Rattle.decimals.specs.Decimal.{digits, decimal}
use Rattle.decimals.specs.Text.{ascii, spaced, line}
use Rattle.found_lines.specs.FoundLine.{sign, assumption, assumptions, found_line}
use Rattle.report.specs.Lines.{state_word, heading_line, last_line}
use Rattle.printout.specs.DeskSearch.{last_state}
use Rattle.printout.specs.Output.{found_lines, search_text, desk_text}

-- File `01 0001 01 02 0002 0002 03 0002 0001 04 0004 0000 0004 7F 0000`,
pub causes : List ℕ
causes = 1 ∷ 0 ∷ 1 ∷ 1 ∷ 2 ∷ 0 ∷ 2 ∷ 0 ∷ 2 ∷ 3 ∷ 0 ∷ 2 ∷ 0 ∷ 1 ∷ 4 ∷ 0 ∷ 4 ∷ 0 ∷ 0 ∷ 0 ∷ 4 ∷ 127 ∷ 0 ∷ 0 ∷ []

-- sheet `06 0002 0000 7F 0000`.
pub sheet : List ℕ
sheet = 6 ∷ 0 ∷ 2 ∷ 0 ∷ 0 ∷ 127 ∷ 0 ∷ 0 ∷ []

-- Two atoms, of which 1 is abducible; the rule 0 :- 1; the query 0.
abbrev papers : Papers
papers = record {
  program = record { atoms = 2; abducibles = 1 ∷ []; rules = record { head = 0; body = 4 ∷ [] } ∷ []; integrity = [] };
  query = 0 ∷ [];
}

reads : read_papers causes sheet ≡ accepted papers
unfolding causes sheet reading
reads = refl

-- What has to unfold for the text.
unfoldable printing : Unit {0}
unfolding desk_text search_text found_lines last_state heading_line found_line last_line state_word assumptions assumption sign line spaced decimal digits
printing = tt

pub printed : desk_text (read_papers causes sheet) ≡ ascii "atoms 2 abducibles 1 scenarios 3\nfound 1 1+\nended tried 3 rounds 3\n"
unfolding printing modelling computing
printed = ap desk_text reads ∙ refl
