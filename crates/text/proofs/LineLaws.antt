-- One token of a line, as the code meets it: a law for each answer.
-- Assumes nothing.
use mathlib.Core.Path.{◌≡◌, refl, sym, ap, ◌∙◌}
use mathlib.Core.Bool.{Bool, true, false, cond}
use mathlib.Core.List.{List, [], ◌∷◌}
use Prim.Native.Nat.{ℕ, ◌≤◌, ◌<◌}
use native.Mathlib.Omega.{arith}
use lib.ListN.{length, drop, length-drop}
use Rattle.std.proofs.Common.{Option, Some, None, Ok, Err}
use Rattle.text.specs.Tokens.{Scanned}
use Rattle.text.specs.Tokens.{Token, End}
use Rattle.text.specs.declared.TextFault.{TextFault}
use Rattle.text.specs.declared.TextFault.TheVariants as fault
use Rattle.text.specs.declared.TextRefusal as answer
use Rattle.text.specs.declared.token.Scanned as answer_token
use Rattle.text.specs.declared.line.Brief.{Brief}
use Rattle.text.specs.declared.line.Stage.{Stage}
use Rattle.text.specs.declared.line.Stage.TheVariants as stage
use Rattle.text.specs.declared.line.Move.{Move}
use Rattle.text.specs.declared.line.Move.TheVariants.{Goes, Ends, Bars}
use Rattle.text.specs.Tokens.{next_token, Tokens, token, stray, end, tokens_from}
use Rattle.text.specs.Lines.{accepted, refused, text_refusal, and_then, Line, State, fresh, declaring, declared, negated, headed, due, denied}
use Rattle.text.specs.Lines.{negated_in, denied_negated, said, Step, goes, ends, bars, step, lines_from}
use Rattle.text.specs.Briefly.{brief, stage_of, move_of, step_briefly, is_fresh}
use Rattle.text.specs.LineAnswers.{lines_at, LineEnds, LineTells, ended_briefly}
use Rattle.text.specs.Told.{text_fault_number, refusal_of, kind_of, number_of, NextTells}
use Rattle.text.proofs.BriefLaws.{step_brief}
use Rattle.text.proofs.Stepping.{found, tokens_step, Bounds, next_bounds}

-- ---- what a move tells of the step

apart : {X : Type 0} → ◌≡◌ {A = ℕ} 0 1 → X
apart z = absurd (omega arith)

pub goes_told : (x : Step) {later : Stage} → move_of x ≡ Goes later → (s : State) × (x ≡ goes s) × (later ≡ stage_of s)
goes_told (goes s) e = (s, refl, cc)
goes_told (ends line) e = apart (cc)
goes_told bars e = apart (cc)

pub ends_told : (x : Step) {b : Brief} → move_of x ≡ Ends b → (line : Line) × (x ≡ ends line) × (b ≡ brief line)
ends_told (goes s) e = apart (cc)
ends_told (ends line) e = (line, refl, cc)
ends_told bars e = apart (cc)

pub bars_told : (x : Step) → move_of x ≡ Bars → x ≡ bars
bars_told (goes s) e = apart (cc)
bars_told (ends line) e = apart (cc)
bars_told bars e = refl

-- ---- the end of the text

fresh_told_lem : (s : State) → is_fresh (stage_of s) ≡ true → s ≡ fresh
fresh_told_lem fresh e = refl
fresh_told_lem (declaring start) e = apart (cc)
fresh_told_lem (declared line) e = apart (cc)
fresh_told_lem (negated start) e = apart (cc)
fresh_told_lem (headed line) e = apart (cc)
fresh_told_lem (due line) e = apart (cc)
fresh_told_lem (denied line) e = apart (cc)
fresh_told_lem (negated_in line) e = apart (cc)
fresh_told_lem (denied_negated line) e = apart (cc)
fresh_told_lem (said line) e = apart (cc)

inside_told : (s : State) (place : ℕ) → is_fresh (stage_of s) ≡ false → lines_from s (end place) ≡ refused (text_refusal 18 place)
unfolding lines_from
inside_told fresh place e = apart (cc)
inside_told (declaring start) place e = refl
inside_told (declared line) place e = refl
inside_told (negated start) place e = refl
inside_told (headed line) place e = refl
inside_told (due line) place e = refl
inside_told (denied line) place e = refl
inside_told (negated_in line) place e = refl
inside_told (denied_negated line) place e = refl
inside_told (said line) place e = refl

-- ---- one token

module _ (s : State) (place kind a : ℕ) (ts : Tokens) where
  pub follow_goes : {t : State} → step s place kind a ≡ goes t → lines_from s (token place kind a ts) ≡ lines_from t ts
  unfolding lines_from
  follow_goes e = rw e

  pub follow_ends : {line : Line} → step s place kind a ≡ ends line
      → lines_from s (token place kind a ts) ≡ and_then (lines_from fresh ts) (λ lines. accepted (line ∷ lines))
  unfolding lines_from
  follow_ends e = rw e

  pub follow_bars : step s place kind a ≡ bars → lines_from s (token place kind a ts) ≡ refused (text_refusal 18 place)
  unfolding lines_from
  follow_bars e = rw e

pub stray_told : (s : State) (place : ℕ) → lines_from s (stray place) ≡ refused (text_refusal 17 place)
unfolding lines_from
stray_told s place = refl

pub over_told : (s : State) (place : ℕ) → s ≡ fresh → lines_from s (end place) ≡ accepted []
unfolding lines_from
over_told s place e = rw e

-- ---- the answers

module _ (text : List ℕ) (at : ℕ) {got : Option answer_token.Scanned} (n : NextTells text at (Ok got)) where
  pub next_is : {s : answer_token.Scanned} → got ≡ Some s → next_token at (drop at text) ≡ Token (kind_of s.token) (number_of s.token) s.start s.end
  next_is e = rw e at n

  pub next_over : got ≡ None → next_token at (drop at text) ≡ End (length text)
  next_over e = rw e at n

module _ (text : List ℕ) (at : ℕ) (fits : at ≤ length text) where
  pub here : {next : Scanned} → next_token at (drop at text) ≡ next → (s : State) → lines_at text s at ≡ lines_from s (found text next)
  here t s = ap (lines_from s) (tokens_step text at) ∙ ap (λ (x : Scanned). lines_from s (found text x)) t

  module _ {kind value start after : ℕ} (t : next_token at (drop at text) ≡ Token kind value start after) where
    pub token_bounds : Bounds at (drop at text) value start after
    token_bounds = next_bounds (drop at text) at t

    pub met : (s : State) → lines_at text s at ≡ lines_from s (token start kind value (tokens_from after 0 (drop after text)))
    met s = here t s

    module _ {stage : Stage} {moved : Move} (m : moved ≡ step_briefly stage start kind value) where
      pub stepped : (s : State) → stage ≡ stage_of s → move_of (step s start kind value) ≡ moved
      stepped s e = step_brief s start kind value ∙ ap (λ (x : Stage). step_briefly x start kind value) (sym e) ∙ sym m

-- ---- the loop: how far the line was read

pub record Gone (text : List ℕ) (from : ℕ) (stage : Stage) (at : ℕ) : Type 0 where
  pub state : State
  pub staged : stage ≡ stage_of state
  pub reads : lines_at text fresh from ≡ lines_at text state at
  pub later : from ≤ at
  pub within : at ≤ length text

pub gone_start : {text : List ℕ} {from : ℕ} → from ≤ length text → Gone text from stage.Fresh from
gone_start h = record { state = fresh; staged = refl; reads = refl; later = omega arith; within = h }

module _ {text : List ℕ} {from : ℕ} {stage : Stage} {at : ℕ} (g : Gone text from stage at) where
  abbrev s : State
  s = g.state

  -- No token: a stray character, or the end of the text.
  pub gone_stray : {r : answer.TextRefusal} → NextTells text at (Err r) → lines_at text fresh from ≡ refused (refusal_of r)
  gone_stray {r} n =
      g.reads ∙ here text at g.within n.1 s ∙ stray_told s r.place
      ∙ ap (λ (f : TextFault). refused (text_refusal (text_fault_number f) r.place)) (sym n.0)

  pub gone_over : {place : ℕ} → next_token at (drop at text) ≡ End place → LineTells text fresh from (ended_briefly stage place)
  unfolding ended_briefly
  gone_over {place} t = go (is_fresh stage) refl
    where
      at_end : lines_at text fresh from ≡ lines_from s (end place)
      at_end = g.reads ∙ here text at g.within t s

      go : (b : Bool) → is_fresh stage ≡ b → LineTells text fresh from (cond b (Ok None) (Err (record { fault = fault.Line; place = place })))
      go true f = at_end ∙ over_told s place (fresh_told_lem s (ap is_fresh (sym g.staged) ∙ f))
      go false f = at_end ∙ inside_told s place (ap is_fresh (sym g.staged) ∙ f)

  module _ {kind value start after : ℕ} (t : next_token at (drop at text) ≡ Token kind value start after) {moved : Move}
      (m : moved ≡ step_briefly stage start kind value) where
    is_moved : move_of (step s start kind value) ≡ moved
    is_moved = stepped text at g.within t m s g.staged

    abbrev rest : Tokens
    rest = tokens_from after 0 (drop after text)

    reached : lines_at text fresh from ≡ lines_from s (token start kind value rest)
    reached = g.reads ∙ met text at g.within t s

    pub gone_less : at < after
    gone_less = let b = token_bounds text at g.within t in omega arith

    pub gone_on : {later : Stage} → moved ≡ Goes later → Gone text from later after
    gone_on e =
        let x = goes_told (step s start kind value) (is_moved ∙ e) in
        let b = token_bounds text at g.within t in
        let l = length-drop at text in
        let before = g.later in
        record { state = x.0; staged = x.2; reads = reached ∙ follow_goes s start kind value rest x.1; later = omega arith; within = omega arith }

    pub gone_ends : {b : Brief} → moved ≡ Ends b → LineEnds text fresh from b after
    gone_ends e =
        let x = ends_told (step s start kind value) (is_moved ∙ e) in
        let bounds = token_bounds text at g.within t in
        let l = length-drop at text in
        let before = g.later in
        record { line = x.0; briefly = x.2; reads = reached ∙ follow_ends s start kind value rest x.1; later = omega arith; within = omega arith }

    pub gone_bars : moved ≡ Bars → lines_at text fresh from ≡ refused (text_refusal 18 start)
    gone_bars e = reached ∙ follow_bars s start kind value rest (bars_told (step s start kind value) (is_moved ∙ e))
