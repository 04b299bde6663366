-- What the desk program prints.
use Rattle.std.specs.Prelude.{List, [], ◌∷◌, ◌++◌, ℕ, length}
use Rattle.papers.specs.Outcome.{Outcome, accepted, refused}
use Rattle.papers.specs.Reading.{Papers}
use Rattle.steps.specs.Explanations.{scenarios, minimals, stop, sum_below}
use Rattle.trying.specs.Trying.{problem_of}
use Rattle.found_lines.specs.FoundLine.{found_line}
use Rattle.report.specs.Lines.{heading_line, last_line, refused_line}
use Rattle.printout.specs.DeskSearch.{last_state}

-- "Each found entry, rising, has a line."
unfoldable pub found_lines : List ℕ → List ℕ → List ℕ
found_lines abducibles [] = []
found_lines abducibles (scenario ∷ more) = found_line scenario abducibles ++ found_lines abducibles more

-- What is printed of accepted papers, with a list of length L. The search goes on to the stopping point: it has then found the minimal
-- explanations below it, and tried every scenario below it.
unfoldable pub search_text : Papers → ℕ → List ℕ
search_text q L =
    let P = problem_of q in
    heading_line q.program.atoms (length q.program.abducibles) (scenarios P)
    ++ (found_lines q.program.abducibles (minimals P (stop P L))
    ++ last_line (last_state P L) (stop P L) (sum_below (stop P L) P.rounds))

-- "L = 1,024"; "a refusal prints one line alone".
unfoldable pub desk_text : Outcome Papers → List ℕ
desk_text (accepted q) = search_text q 1024
desk_text (refused r) = refused_line r
