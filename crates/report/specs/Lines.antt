-- Document 01's lines. "The words stand as shown, with one space between items."
use Rattle.std.specs.Prelude.{List, [], ◌∷◌, ℕ}
use Rattle.papers.specs.declared.Paper.{Paper}
use Rattle.papers.specs.declared.Paper.TheVariants.{File, Sheet}
use Rattle.papers.specs.Outcome.{Refusal}
use Rattle.steps.specs.declared.State.{State}
use Rattle.steps.specs.declared.State.TheVariants.{Going, Full, Ended}
use Rattle.decimals.specs.Decimal.{decimal}
use Rattle.decimals.specs.Text.{ascii, line}

-- ---- the words

abbrev pub atoms_word : List ℕ
atoms_word = ascii "atoms"

abbrev pub abducibles_word : List ℕ
abducibles_word = ascii "abducibles"

abbrev pub scenarios_word : List ℕ
scenarios_word = ascii "scenarios"

abbrev pub tried_word : List ℕ
tried_word = ascii "tried"

abbrev pub rounds_word : List ℕ
rounds_word = ascii "rounds"

abbrev pub refused_word : List ℕ
refused_word = ascii "refused"

unfoldable pub state_word : State → List ℕ
state_word Going = ascii "going"
state_word Full = ascii "full"
state_word Ended = ascii "ended"

unfoldable pub paper_word : Paper → List ℕ
paper_word File = ascii "file"
paper_word Sheet = ascii "sheet"

-- ---- the lines

-- `atoms 2 abducibles 1 scenarios 3`: "the first line has n, k and 3^k".
unfoldable pub heading_line : ℕ → ℕ → ℕ → List ℕ
heading_line atoms abducibles scenarios =
    line atoms_word (decimal atoms ∷ abducibles_word ∷ decimal abducibles ∷ scenarios_word ∷ decimal scenarios ∷ [])

-- `ended tried 3 rounds 3`: "the last call's state, then the sums over all calls".
unfoldable pub last_line : State → ℕ → ℕ → List ℕ
last_line state tried rounds = line (state_word state) (tried_word ∷ decimal tried ∷ rounds_word ∷ decimal rounds ∷ [])

-- `refused 6 sheet 0`: "number, paper, place".
unfoldable pub refused_line : Refusal → List ℕ
refused_line refusal =
    line refused_word (decimal refusal.number ∷ paper_word refusal.paper ∷ decimal refusal.place ∷ [])
