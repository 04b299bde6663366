-- What reading one line answers, by the definition of the lines of a text.
use Rattle.std.specs.Prelude.{◌≡◌, cond, List, [], ◌∷◌, ℕ, ◌≤◌, ◌<◌, Option, Some, None, Result, Ok, Err, length, drop}
use Rattle.text.specs.declared.line.Brief.{Brief}
use Rattle.text.specs.declared.line.Stage.{Stage}
use Rattle.text.specs.declared.TextRefusal.{TextRefusal}
use Rattle.text.specs.declared.TextFault.TheVariants as fault
use Rattle.text.specs.Tokens.{tokens_from}
use Rattle.text.specs.Lines.{Reading, accepted, refused, and_then, Line, State, fresh, lines_from}
use Rattle.text.specs.Briefly.{brief, is_fresh}
use Rattle.text.specs.Told.{refusal_of}

-- The lines of a text from a place on, where a line was read so far.
abbrev pub lines_at : List ℕ → State → ℕ → Reading (List Line)
lines_at text s at = lines_from s (tokens_from at 0 (drop at text))

-- A line that ends before a place: the lines from here on are that line and those from there on.
pub record LineEnds (text : List ℕ) (s : State) (at : ℕ) (b : Brief) (after : ℕ) : Type 0 where
  pub line : Line
  pub briefly : b ≡ brief line
  pub reads : lines_at text s at ≡ and_then (lines_at text fresh after) (λ lines. accepted (line ∷ lines))
  pub later : at < after
  pub within : after ≤ length text

abbrev pub LineTells : List ℕ → State → ℕ → Result (Option (Brief × ℕ)) TextRefusal → Type 0
LineTells text s at (Ok (Some found)) = LineEnds text s at found.0 found.1
LineTells text s at (Ok None) = lines_at text s at ≡ accepted []
LineTells text s at (Err r) = lines_at text s at ≡ refused (refusal_of r)

-- The end of the text: between lines, or inside one.
unfoldable pub ended_briefly : Stage → ℕ → Result (Option (Brief × ℕ)) TextRefusal
ended_briefly stage place = cond (is_fresh stage) (Ok None) (Err (record { fault = fault.Line; place = place }))
