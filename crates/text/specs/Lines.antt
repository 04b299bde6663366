-- The lines of a text: which tokens a line's form allows, and what it says.
use Rattle.std.specs.Prelude.{Bool, cond, List, [], ◌∷◌, ◌++◌, ℕ, zero, suc, eqb}
use Rattle.literals.specs.Numbering.{positive, negative, literal, default_negation}
use Rattle.text.specs.Tokens.{Tokens, token, stray, end, tokens}

-- A refusal of a text: its number and its place in the text. Its paper is the text.
pub record TextRefusal : Type 0 where
  pub number : ℕ
  pub place : ℕ

-- What a text comes to: what it is accepted as, or the refusal.
pub data Reading (A : Type 0) : Type 0 where
  accepted : A → Reading A
  refused : TextRefusal → Reading A

abbrev pub text_refusal : ℕ → ℕ → TextRefusal
text_refusal number place = record { number = number; place = place }

abbrev pub passing : {A : Type 0} → ℕ → ℕ → Reading A → Reading A
passing zero place next = next
passing (suc n) place next = refused (text_refusal (suc n) place)

abbrev pub and_then : {A B : Type 0} → Reading A → (A → Reading B) → Reading B
and_then (accepted a) next = next a
and_then (refused r) next = refused r

-- "`abducible p4.` declares one, `false :- p1.` is an integrity rule, `false.` is one with no literals, `p2.` is a fact": a line, by
-- the place of its first token, and its abducible atom, its head and body, or its body.
pub data Line : Type 0 where
  abducible : ℕ → ℕ → Line
  rule : ℕ → ℕ → List ℕ → Line
  integrity : ℕ → List ℕ → Line

-- One more body literal.
abbrev pub also : Line → ℕ → Line
also (abducible start a) l = abducible start a
also (rule start head body) l = rule start head (body ++ (l ∷ []))
also (integrity start body) l = integrity start (body ++ (l ∷ []))

-- How far a line has been read, and what it has said.
pub data State : Type 0 where
  fresh : State
  declaring : ℕ → State
  declared : Line → State
  negated : ℕ → State
  headed : Line → State
  due : Line → State
  denied : Line → State
  negated_in : Line → State
  denied_negated : Line → State
  said : Line → State

-- What a token does to it: the line goes on or ends, or the token is not allowed there.
pub data Step : Type 0 where
  goes : State → Step
  ends : Line → Step
  bars : Step

-- The kinds of tokens, by their first characters.
abbrev pub is_atom : ℕ → Bool
is_atom kind = eqb kind 0x70

abbrev pub is_minus : ℕ → Bool
is_minus kind = eqb kind 0x2D

abbrev pub is_not : ℕ → Bool
is_not kind = eqb kind 0x6E

abbrev pub is_arrow : ℕ → Bool
is_arrow kind = eqb kind 0x3A

abbrev pub is_comma : ℕ → Bool
is_comma kind = eqb kind 0x2C

abbrev pub is_stop : ℕ → Bool
is_stop kind = eqb kind 0x2E

abbrev pub is_abducible : ℕ → Bool
is_abducible kind = eqb kind 0x61

abbrev pub is_false : ℕ → Bool
is_false kind = eqb kind 0x66

-- What a token at a place does, by its kind and its number a. Before a line: `abducible`, `false`, or a head, an atom or its negation.
-- "After `abducible` a bare atom"; "every line ends with a full stop"; "after `:-` stands at least one literal".
unfoldable pub step : State → ℕ → ℕ → ℕ → Step
step fresh place kind a =
    cond (is_abducible kind) (goes (declaring place))
    (cond (is_false kind) (goes (headed (integrity place [])))
    (cond (is_minus kind) (goes (negated place))
    (cond (is_atom kind) (goes (headed (rule place (positive a) []))) bars)))
step (declaring start) place kind a = cond (is_atom kind) (goes (declared (abducible start a))) bars
step (declared line) place kind a = cond (is_stop kind) (ends line) bars
step (negated start) place kind a = cond (is_atom kind) (goes (headed (rule start (negative a) []))) bars
step (headed line) place kind a = cond (is_stop kind) (ends line) (cond (is_arrow kind) (goes (due line)) bars)
step (due line) place kind a =
    cond (is_not kind) (goes (denied line))
    (cond (is_minus kind) (goes (negated_in line))
    (cond (is_atom kind) (goes (said (also line (literal (positive a))))) bars))
step (denied line) place kind a =
    cond (is_minus kind) (goes (denied_negated line))
    (cond (is_atom kind) (goes (said (also line (default_negation (positive a))))) bars)
step (negated_in line) place kind a = cond (is_atom kind) (goes (said (also line (literal (negative a))))) bars
step (denied_negated line) place kind a = cond (is_atom kind) (goes (said (also line (default_negation (negative a))))) bars
step (said line) place kind a = cond (is_comma kind) (goes (due line)) (cond (is_stop kind) (ends line) bars)

-- The end of the text: between lines, or "18 .. at the end inside a line".
abbrev pub end_of : State → ℕ → Reading (List Line)
end_of fresh place = accepted []
end_of (declaring start) place = refused (text_refusal 18 place)
end_of (declared line) place = refused (text_refusal 18 place)
end_of (negated start) place = refused (text_refusal 18 place)
end_of (headed line) place = refused (text_refusal 18 place)
end_of (due line) place = refused (text_refusal 18 place)
end_of (denied line) place = refused (text_refusal 18 place)
end_of (negated_in line) place = refused (text_refusal 18 place)
end_of (denied_negated line) place = refused (text_refusal 18 place)
end_of (said line) place = refused (text_refusal 18 place)

-- What follows a token: the line goes on, or it ends and the next may begin, or "18 at the first token the line form doesn't allow".
abbrev pub follow : Step → ℕ → (State → Reading (List Line)) → Reading (List Line)
follow (goes s) place later = later s
follow (ends line) place later = and_then (later fresh) (λ lines. accepted (line ∷ lines))
follow bars place later = refused (text_refusal 18 place)

-- The lines from here on, where one was read so far. "17 at the first character that starts no permitted token, 18 at the first token
-- the line form doesn't allow, or at the end inside a line; the earlier place decides": the text is read once, from left to right.
unfoldable pub lines_from : State → Tokens → Reading (List Line)
lines_from s (end place) = end_of s place
lines_from s (stray place) = refused (text_refusal 17 place)
lines_from s (token place kind a later) = follow (step s place kind a) place (λ next. lines_from next later)

abbrev pub lines_of : List ℕ → Reading (List Line)
lines_of text = lines_from fresh (tokens text)
