-- What a text is accepted as depends on its tokens alone: spaces and line ends do not matter.
-- Assumes nothing.
use mathlib.Core.Path.{◌≡◌, refl, sym, ap, ◌∙◌}
use mathlib.Core.Bool.{Bool, true, false, cond}
use mathlib.Core.List.{List, [], ◌∷◌, map}
use Prim.Native.Nat.{ℕ}
use native.Mathlib.Omega.{arith}
use Rattle.papers.specs.Program.{Program}
use Rattle.papers.specs.Encoding.{rule_numbers}
use Rattle.papers.specs.Reading.{rule_of}
use Rattle.literals.specs.Numbering.{positive, negative, literal, default_negation}
use Rattle.text.specs.Tokens.{Tokens, token, stray, end, tokens}
use Rattle.text.specs.Lines.{Reading, accepted, refused, text_refusal, and_then, Line, abducible, rule, integrity, also, State, fresh, declaring}
use Rattle.text.specs.Lines.{declared, negated, headed, due, denied, negated_in, denied_negated, said, Step, goes, ends, bars, follow, is_atom}
use Rattle.text.specs.Lines.{is_minus, is_not, is_arrow, is_comma, is_stop, is_abducible, is_false, step, lines_from, lines_of}
use Rattle.text.specs.Typed.{its, rules_in, integrity_in, program_typed}
use Rattle.text.specs.Importing.{import_text}
use Rattle.text.proofs.Printed.{bare}
use Rattle.text.proofs.ReadBack.{imported}
use Rattle.text.proofs.RoundTrip.{typed_bare, valid_passes}

-- Tokens, states, steps and readings without places.
pub placeless : Tokens → Tokens
placeless (token place kind a later) = token 0 kind a (placeless later)
placeless (stray place) = stray 0
placeless (end place) = end 0

abbrev bare_state : State → State
bare_state fresh = fresh
bare_state (declaring start) = declaring 0
bare_state (declared line) = declared (bare line)
bare_state (negated start) = negated 0
bare_state (headed line) = headed (bare line)
bare_state (due line) = due (bare line)
bare_state (denied line) = denied (bare line)
bare_state (negated_in line) = negated_in (bare line)
bare_state (denied_negated line) = denied_negated (bare line)
bare_state (said line) = said (bare line)

abbrev bare_step : Step → Step
bare_step (goes s) = goes (bare_state s)
bare_step (ends line) = ends (bare line)
bare_step bars = bars

abbrev bare_reading : Reading (List Line) → Reading (List Line)
bare_reading (accepted lines) = accepted (map bare lines)
bare_reading (refused f) = refused (text_refusal f.number 0)

also_bare : (line : Line) (l : ℕ) → bare (also line l) ≡ also (bare line) l
unfolding bare
also_bare (abducible start a) l = refl
also_bare (rule start head body) l = refl
also_bare (integrity start body) l = refl

picked : (t : Bool) (x y m n : Step) → bare_step x ≡ m → bare_step y ≡ n → bare_step (cond t x y) ≡ cond t m n
picked true x y m n e f = e
picked false x y m n e f = f

also_said : (line : Line) (l : ℕ) → bare_step (goes (said (also line l))) ≡ goes (said (also (bare line) l))
also_said line l = ap (λ (l : Line). goes (said l)) (also_bare line l)

step_bare : (s : State) (place kind a : ℕ) → bare_step (step s place kind a) ≡ step (bare_state s) 0 kind a
unfolding step bare
step_bare fresh place kind a =
    picked (is_abducible kind) _ _ _ _ refl (picked (is_false kind) _ _ _ _ refl
    (picked (is_minus kind) _ _ _ _ refl (picked (is_atom kind) _ _ _ _ refl refl)))
step_bare (declaring start) place kind a = picked (is_atom kind) _ _ _ _ refl refl
step_bare (declared line) place kind a = picked (is_stop kind) _ _ _ _ refl refl
step_bare (negated start) place kind a = picked (is_atom kind) _ _ _ _ refl refl
step_bare (headed line) place kind a = picked (is_stop kind) _ _ _ _ refl (picked (is_arrow kind) _ _ _ _ refl refl)
step_bare (due line) place kind a =
    picked (is_not kind) _ _ _ _ refl
    (picked (is_minus kind) _ _ _ _ refl (picked (is_atom kind) _ _ _ _ (also_said line (literal (positive a))) refl))
step_bare (denied line) place kind a =
    picked (is_minus kind) _ _ _ _ refl (picked (is_atom kind) _ _ _ _ (also_said line (default_negation (positive a))) refl)
step_bare (negated_in line) place kind a = picked (is_atom kind) _ _ _ _ (also_said line (literal (negative a))) refl
step_bare (denied_negated line) place kind a = picked (is_atom kind) _ _ _ _ (also_said line (default_negation (negative a))) refl
step_bare (said line) place kind a = picked (is_comma kind) _ _ _ _ refl (picked (is_stop kind) _ _ _ _ refl refl)

end_bare : (s : State) (place : ℕ) → lines_from (bare_state s) (end 0) ≡ bare_reading (lines_from s (end place))
unfolding lines_from
end_bare fresh place = refl
end_bare (declaring start) place = refl
end_bare (declared line) place = refl
end_bare (negated start) place = refl
end_bare (headed line) place = refl
end_bare (due line) place = refl
end_bare (denied line) place = refl
end_bare (negated_in line) place = refl
end_bare (denied_negated line) place = refl
end_bare (said line) place = refl

then_bare : (line : Line) (o : Reading (List Line))
    → and_then (bare_reading o) (λ lines. accepted (bare line ∷ lines)) ≡ bare_reading (and_then o (λ lines. accepted (line ∷ lines)))
then_bare line (accepted lines) = refl
then_bare line (refused f) = refl

lines_bare : (s : State) (ts : Tokens) → lines_from (bare_state s) (placeless ts) ≡ bare_reading (lines_from s ts)
unfolding lines_from placeless
lines_bare s (end place) = end_bare s place
lines_bare s (stray place) = refl
lines_bare s (token place kind a later) =
    rw (← step_bare s place kind a) (go (step s place kind a) (λ t. lines_bare t later))
  where
    go : (x : Step) → ((t : State) → lines_from (bare_state t) (placeless later) ≡ bare_reading (lines_from t later))
        → follow (bare_step x) 0 (λ next. lines_from next (placeless later)) ≡ bare_reading (follow x place (λ next. lines_from next later))
    go (goes t) ih = ih t
    go (ends line) ih = rw (ih fresh) (then_bare line (lines_from fresh later))
    go bars ih = refl

-- Two readings that are alike but for places.
same_lines : (o : Reading (List Line)) (lines : List Line) → bare_reading o ≡ accepted (map bare lines)
    → (more : List Line) × (o ≡ accepted more) × (map bare more ≡ map bare lines)
same_lines (accepted more) lines e = (more, refl, cc)
same_lines (refused f) lines e = absurd (let z : ◌≡◌ {A = ℕ} 0 1 = cc in omega arith)

pub rules_whole : (ls : List Line) → map its (rules_in ls) ≡ map rule_numbers (map rule_of (map its (rules_in ls)))
unfolding rules_in rule_of
rules_whole [] = refl
rules_whole (abducible start a ∷ more) = rules_whole more
rules_whole (rule start head body ∷ more) = ap (λ (l : List (List ℕ)). (head ∷ body) ∷ l) (rules_whole more)
rules_whole (integrity start body ∷ more) = rules_whole more

typed_rules : (ls : List Line) (p : Program) → program_typed ls ≡ p
    → (map its (rules_in ls) ≡ map rule_numbers p.rules) × (map its (integrity_in ls) ≡ p.integrity)
unfolding program_typed
typed_rules ls p e = (rules_whole ls ∙ ap (λ (q : Program). map rule_numbers q.rules) e, ap (λ (q : Program). q.integrity) e)

pub spacing_free : (one other : List ℕ) (p : Program) → placeless (tokens one) ≡ placeless (tokens other) → import_text one ≡ accepted p
    → import_text other ≡ accepted p
unfolding import_text
spacing_free one other p alike e =
    let i = imported one p e in
    let o : bare_reading (lines_of other) ≡ accepted (map bare i.lines) =
    sym (lines_bare fresh (tokens other)) ∙ ap (lines_from fresh) (sym alike) ∙ lines_bare fresh (tokens one) ∙ ap bare_reading i.read in
    let found = same_lines (lines_of other) i.lines o in
    let is : program_typed found.0 ≡ p = sym (typed_bare found.0) ∙ ap program_typed found.2 ∙ typed_bare i.lines ∙ sym i.typed in
    let t = typed_rules found.0 p is in
    rw (found.1, is) (valid_passes found.0 p i.valid t.0 t.1)
