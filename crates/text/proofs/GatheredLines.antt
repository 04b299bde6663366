-- The numbers of a line as the loop that gathers them meets them.
-- Assumes nothing.
use mathlib.Core.Path.{◌≡◌, refl, sym, ap, ◌∙◌}
use mathlib.Core.List.{List, [], ◌∷◌}
use Prim.Native.Nat.{ℕ, ◌≤◌, ◌<◌}
use native.Mathlib.Omega.{arith}
use lib.ListN.{length, drop, set, length-drop}
use lib.Seq.{set_out}
use Rattle.text.specs.Tokens.{Token, Stray, End}
use Rattle.text.specs.declared.line.Stage.{Stage}
use Rattle.text.specs.declared.line.Stage.TheVariants as stage
use Rattle.text.specs.declared.line.Move.{Move}
use Rattle.text.specs.declared.line.Move.TheVariants.{Goes}
use Rattle.text.specs.Tokens.{next_token, token, end, tokens_from}
use Rattle.text.specs.Lines.{Reading, accepted, Line, State, fresh, declaring, declared, negated, headed, due, denied, negated_in}
use Rattle.text.specs.Lines.{denied_negated, said, Step, goes, ends, bars, step, lines_from}
use Rattle.text.specs.Briefly.{numbers_of, stage_of, move_of, step_briefly}
use Rattle.text.specs.LineAnswers.{lines_at}
use Rattle.text.specs.LineNumbers.{padded, place_said, number_said, NumbersTell}
use Rattle.text.proofs.Readings.{refused_not, through}
use Rattle.text.proofs.LineLaws.{goes_told, follow_goes, follow_ends, follow_bars, stray_told, here, token_bounds, met, stepped}
use Rattle.text.proofs.Gathering.{padded_length, numbers_in, Sound, Gathers, gathers}

pub record Gathered (text : List ℕ) (from : ℕ) (stage : Stage) (at : ℕ) (numbers : List ℕ) : Type 0 where
  pub state : State
  pub staged : stage ≡ stage_of state
  pub sound : Sound state
  pub reads : lines_at text fresh from ≡ lines_at text state at
  pub within : at ≤ length text
  pub held : numbers ≡ padded 17 (numbers_in state)

pub gathered_start : {text : List ℕ} {from : ℕ} {numbers : List ℕ} → from ≤ length text → numbers ≡ padded 17 [] → Gathered text from stage.Fresh from numbers
gathered_start h e = record { state = fresh; staged = refl; sound = tt; reads = refl; within = h; held = e }

none_begun : {X : Type 0} {line : Line} {rest : List Line} → ◌≡◌ {A = Reading (List Line)} (accepted []) (accepted (line ∷ rest)) → X
none_begun e = absurd (let z : ◌≡◌ {A = ℕ} 0 1 = cc in omega arith)

-- Where the text ends there is no line.
no_line : {X : Type 0} (s : State) (place : ℕ) {line : Line} {rest : List Line} → lines_from s (end place) ≡ accepted (line ∷ rest) → X
unfolding lines_from
no_line fresh place e = none_begun e
no_line (declaring start) place e = refused_not e
no_line (declared line) place e = refused_not e
no_line (negated start) place e = refused_not e
no_line (headed line) place e = refused_not e
no_line (due line) place e = refused_not e
no_line (denied line) place e = refused_not e
no_line (negated_in line) place e = refused_not e
no_line (denied_negated line) place e = refused_not e
no_line (said line) place e = refused_not e

module _ {text : List ℕ} {from : ℕ} {stage : Stage} {at : ℕ} {numbers : List ℕ} (g : Gathered text from stage at numbers) where
  abbrev s : State
  s = g.state

  -- No token: there is no line here.
  pub gathered_stray : {place : ℕ} → next_token at (drop at text) ≡ Stray place → NumbersTell text from numbers
  gathered_stray {place} t line rest e = refused_not (sym (stray_told s place) ∙ sym (here text at g.within t s) ∙ sym g.reads ∙ e)

  pub gathered_over : {place : ℕ} → next_token at (drop at text) ≡ End place → NumbersTell text from numbers
  gathered_over {place} t line rest e = no_line s place (sym (here text at g.within t s) ∙ sym g.reads ∙ e)

  module _ {kind value start after : ℕ} (t : next_token at (drop at text) ≡ Token kind value start after) {moved : Move}
      (m : moved ≡ step_briefly stage start kind value) where
    abbrev taken : Step
    taken = step s start kind value

    does : Gathers s kind value taken
    does = gathers s start kind value g.sound

    is_moved : move_of taken ≡ moved
    is_moved = stepped text at g.within t m s g.staged

    pub gathered_less : at < after
    gathered_less = let b = token_bounds text at g.within t in omega arith

    -- Where the token says no number, none is written.
    pub gathered_same : place_said stage kind ≡ 17 → numbers ≡ set numbers (place_said stage kind) (number_said stage value)
    gathered_same p =
        let l = ap length g.held ∙ padded_length 17 (numbers_in s) in
        sym (set_out numbers (place_said stage kind) (number_said stage value) (omega arith))

    pub gathered_on : {later : Stage} {more : List ℕ} → moved ≡ Goes later
        → more ≡ set numbers (place_said stage kind) (number_said stage value) → Gathered text from later after more
    gathered_on {later} {more} e w =
        let x = goes_told taken (is_moved ∙ e) in
        let b = token_bounds text at g.within t in
        let l = length-drop at text in
        let d : Gathers s kind value (goes x.0) = rw x.1 at does in
        record {
          state = x.0;
          staged = x.2;
          sound = d.0;
          reads = g.reads ∙ met text at g.within t s ∙ follow_goes s start kind value (tokens_from after 0 (drop after text)) x.1;
          within = omega arith;
          held =
              w
              ∙ ap (λ (o : List ℕ). set o (place_said stage kind) (number_said stage value)) g.held
              ∙ ap (λ (o : Stage). set (padded 17 (numbers_in s)) (place_said o kind) (number_said o value)) g.staged ∙ sym d.1;
        }

    -- The line ends with this token, or the text is refused at it.
    pub gathered_done : ((later : Stage) → moved ≡ Goes later → ⊥) → NumbersTell text from numbers
    gathered_done k line rest e = go taken refl does
      where
        ahead : lines_from s (token start kind value (tokens_from after 0 (drop after text))) ≡ accepted (line ∷ rest)
        ahead = sym (met text at g.within t s) ∙ sym g.reads ∙ e

        go : (x : Step) → taken ≡ x → Gathers s kind value x → numbers ≡ padded 17 (numbers_of line)
        go (goes later) q d = absurd (k (stage_of later) (sym is_moved ∙ ap move_of q))
        go (ends last) q d =
            let f = sym (follow_ends s start kind value (tokens_from after 0 (drop after text)) q) ∙ ahead in
            let r = through (lines_at text fresh after) (λ lines. accepted (last ∷ lines)) f in
            let same : last ≡ line = let a = r.after in cc in
            g.held ∙ ap (padded 17) (sym d ∙ ap numbers_of same)
        go bars q d = refused_not (sym (follow_bars s start kind value (tokens_from after 0 (drop after text)) q) ∙ ahead)
