-- The eight words of an answer: 0 the refusal number (0: accepted), 1 the paper (0 file, 1 sheet, 2 text), 2 the place, the others by the
-- call. A word that has no meaning in an answer is 0.
use Rattle.std.specs.Prelude.{◌≡◌, Bool, true, false, List, [], ◌∷◌, ℕ, length}
use Rattle.papers.specs.declared.Paper.{Paper}
use Rattle.papers.specs.declared.Paper.TheVariants.{File, Sheet}
use Rattle.papers.specs.Outcome.{Outcome}
use Rattle.papers.specs.Reading.{Papers, read_papers}
use Rattle.papers.specs.Answers.{rest_of}
use Rattle.papers.specs.Told.{Told, tells, refused_by, refused_at, read_told, papers_of}
use Rattle.importing.specs.Imports as import
use Rattle.importing.specs.Imports.{ImportTold}
use Rattle.judging.specs.Judging.{Verdict, judge_told, dual_judged, model_judged}
use Rattle.search.specs.Searching.{continue_told, dual_continued, list_continued}
use Rattle.held.specs.declared.SearchRecord.{SearchRecord}
use Rattle.trying.specs.declared.Report.{Report}
use Rattle.steps.specs.declared.State.{State}
use Rattle.steps.specs.declared.State.TheVariants.{Going, Full, Ended}

abbrev pub paper_number : Paper → ℕ
paper_number File = 0
paper_number Sheet = 1

-- "The paper named in 1 to 10, 17 and 18 is the text."
abbrev pub text_number : ℕ
text_number = 2

-- ---- words 0 to 2, and the five that follow

abbrev pub accepted_words : List ℕ → List ℕ
accepted_words own = 0 ∷ 0 ∷ 0 ∷ own

-- A refusal that names no paper and no place.
abbrev pub bare_words : ℕ → List ℕ → List ℕ
bare_words number kept = number ∷ 0 ∷ 0 ∷ kept

abbrev pub refusal_words : ℕ → Paper → ℕ → List ℕ → List ℕ
refusal_words number paper place kept = number ∷ paper_number paper ∷ place ∷ kept

-- What is told: `own` are the five words of the call's values, `kept` those of a refusal.
abbrev pub words : {A : Type 0} → (A → List ℕ) → List ℕ → Told A → List ℕ
words own kept (tells values) = accepted_words (own values)
words own kept (refused_by number) = bare_words number kept
words own kept (refused_at number paper place) = refusal_words number paper place kept

-- Five of which words 3 and 4 may have a meaning.
abbrev pub two : ℕ → ℕ → List ℕ
two third fourth = third ∷ fourth ∷ 0 ∷ 0 ∷ 0 ∷ []

-- ---- each call's

-- The rest of a refused paper: word 3 is its length. Where neither is refused it is the empty part.
abbrev pub rest_words : {A : Type 0} → List ℕ → Told A → List ℕ
rest_words rest = words (λ values. two 0 0) (two (length rest) 0)

-- Writing the dual: word 3 is its length.
abbrev pub dual_words : Told ℕ → List ℕ
dual_words = words (λ n. two n 0) (two 0 0)

-- A refusal of a text.
abbrev pub text_words : ℕ → ℕ → List ℕ
text_words number place = number ∷ text_number ∷ place ∷ two 0 0

-- Importing a text: word 3 is the file's length.
abbrev pub import_words : ImportTold → List ℕ
import_words (import.tells n) = accepted_words (two n 0)
import_words (import.refused_by number) = bare_words number (two 0 0)
import_words (import.refused_in_text number place) = text_words number place

abbrev pub flag_number : Bool → ℕ
flag_number true = 1
flag_number false = 0

-- Judging: word 3 is the verdict, 1 for an explanation, and word 4 the round count.
abbrev pub judged_words : Told Verdict → List ℕ
judged_words = words (λ v. two (flag_number v.explains) v.rounds) (two 0 0)

-- A fresh search: words 3 and 4 are the position and found of its record, 5 and 6 the masks, the assumed first.
abbrev pub fresh_words : Told SearchRecord → List ℕ
fresh_words = words (λ r. r.at.position ∷ r.at.found ∷ r.held.assumed ∷ r.held.ruled ∷ 0 ∷ []) (two 0 0)

abbrev pub state_number : State → ℕ
state_number Going = 0
state_number Full = 1
state_number Ended = 2

abbrev pub record_of : ℕ → ℕ → ℕ → ℕ → SearchRecord
record_of position found assumed ruled =
    record { at = record { position = position; found = found }; held = record { assumed = assumed; ruled = ruled } }

abbrev pub report_words : Report → List ℕ
report_words x = x.new.at.position ∷ x.new.at.found ∷ x.tried ∷ x.rounds ∷ state_number x.state ∷ []

-- Continuing: words 3 and 4 are the record's position and found, those given where the call is refused; 5 the scenarios tried, 6 their rounds, 7 the
-- state. The masks are those given.
abbrev pub continued_words : SearchRecord → Told Report → List ℕ
continued_words from = words report_words (two from.at.position from.at.found)

-- ---- what each call leaves

-- The words of the rest of a refused paper.
abbrev pub rest_left : List ℕ → List ℕ → List ℕ
rest_left file sheet = rest_words (rest_of (read_papers file sheet) file sheet) (read_told papers_of (read_papers file sheet))

-- Judging: the two lent buffers and the words.
abbrev pub JudgeLeaves : Outcome Papers → ℕ → List ℕ → List ℕ → List ℕ → List ℕ → List ℕ → Type 0
JudgeLeaves read s dual model after valued out =
    (out ≡ judged_words (judge_told read s (length dual) (length model)))
    × ((after ≡ dual_judged read s dual model) × (valued ≡ model_judged read s dual model))

-- Continuing: the lent buffer, the lent list and the words.
abbrev pub ContinueLeaves : Outcome Papers → ℕ → List ℕ → SearchRecord → List ℕ → List ℕ → List ℕ → List ℕ → Type 0
ContinueLeaves read allowance dual from list after left out =
    (out ≡ continued_words from (continue_told read allowance (length dual) from list))
    × ((after ≡ dual_continued read allowance dual from list) × (left ≡ list_continued read allowance (length dual) from list))
