-- Which of the file's numbers can arise: the atoms of an accepted text are below its atom count, so 5, 6 and 7 cannot.
-- Assumes nothing.
use mathlib.Core.Path.{◌≡◌, refl}
use mathlib.Core.Bool.{Bool, true, false, not, cond}
use mathlib.Core.List.{List, [], ◌∷◌, ◌++◌, map}
use Prim.Native.Nat.{ℕ, zero, suc, ◌+◌, ◌*◌, ◌/◌, ◌≤◌, ◌<◌}
use native.Mathlib.Omega.{arith}
use native.Mathlib.Decide.{dec_lt}
use borrow.Author.Tests.{lt-ltb, le-ltb}
use Rattle.literals.specs.Numbering.{positive, negative, literal, default_negation}
use Rattle.papers.specs.Program.{Rule, Program}
use Rattle.papers.specs.Outcome.{check}
use Rattle.papers.specs.Content.{atoms_fault, abducibles_fault, literals_fault, is_among, rule_fault, body_fault}
use Rattle.papers.specs.Reading.{rule_of}
use Rattle.papers.specs.Valid.{All, Rising}
use Rattle.papers.specs.Valid.{All.none as nothing, All.each as each, Rising.none as flat, Rising.next as above}
use Rattle.papers.proofs.ContentLaws.{atoms_fit, abducibles_fit, body_literals_fit, plain_body}
use Rattle.text.specs.Tokens.{is_blank, token_size, Tokens, token, stray, end, token_then, tokens_from}
use Rattle.text.specs.Lines.{Reading, accepted, Line, abducible, rule, integrity, also, State, fresh, declaring, declared, negated, headed, due}
use Rattle.text.specs.Lines.{denied, negated_in, denied_negated, said, Step, goes, ends, bars, follow, is_atom, is_minus, is_not, is_arrow, is_comma}
use Rattle.text.specs.Lines.{is_stop, is_abducible, is_false, step, lines_from, lines_of}
use Rattle.text.specs.Typed.{its, declared_in, rules_in, integrity_in, atoms_of, named_in, larger, count_of, rising_from, program_typed, Typable}
use Rattle.text.proofs.Readings.{refused_not, through}
use Rattle.text.proofs.Stepping.{number_small}
use Rattle.text.proofs.Printed.{Printable, abducible_fits, rule_fits, integrity_fits}

-- ---- tokens have small numbers

data Small : Tokens → Type 0 where
  small_token : {place kind a : ℕ} {later : Tokens} → a ≤ 255 → Small later → Small (token place kind a later)
  small_stray : {place : ℕ} → Small (stray place)
  small_end : {place : ℕ} → Small (end place)

tokens_small : (place taken : ℕ) (bytes : List ℕ) → Small (tokens_from place taken bytes)
unfolding tokens_from
tokens_small place zero [] = small_end
tokens_small place (suc taken) [] = small_end
tokens_small place (suc taken) (b ∷ more) = tokens_small (place + 1) taken more
tokens_small place zero (b ∷ more) = go (is_blank b) (token_size (b ∷ more)) refl (λ taken. tokens_small (place + 1) taken more)
  where
    go : (t : Bool) (size : ℕ) → token_size (b ∷ more) ≡ size → ((taken : ℕ) → Small (tokens_from (place + 1) taken more))
        → Small (cond t (tokens_from (place + 1) 0 more) (token_then place (b ∷ more) (λ taken. tokens_from (place + 1) taken more) size))
    go true zero s ih = ih 0
    go true (suc size) s ih = ih 0
    go false zero s ih = small_stray
    go false (suc size) s ih = small_token (number_small b more (λ e. omega arith)) (ih size)

-- ---- so have lines

abbrev StateFits : State → Type 0
StateFits fresh = Unit {0}
StateFits (declaring start) = Unit {0}
StateFits (declared line) = Printable line
StateFits (negated start) = Unit {0}
StateFits (headed line) = Printable line
StateFits (due line) = Printable line
StateFits (denied line) = Printable line
StateFits (negated_in line) = Printable line
StateFits (denied_negated line) = Printable line
StateFits (said line) = Printable line

abbrev StepFits : Step → Type 0
StepFits (goes s) = StateFits s
StepFits (ends line) = Printable line
StepFits bars = Unit {0}

either : (t : Bool) (x y : Step) → StepFits x → StepFits y → StepFits (cond t x y)
either true x y a b = a
either false x y a b = b

one_more : {P : ℕ → Type 0} {ls : List ℕ} {l : ℕ} → All P ls → P l → All P (ls ++ (l ∷ []))
one_more nothing h = each h nothing
one_more (each p ps) h = each p (one_more ps h)

also_fits : (line : Line) (l : ℕ) → l < 1024 → Printable line → Printable (also line l)
also_fits (abducible start a) l h (abducible_fits p) = abducible_fits p
also_fits (rule start head body) l h (rule_fits p b) = rule_fits p (one_more b h)
also_fits (integrity start body) l h (integrity_fits b) = integrity_fits (one_more b h)

step_fits : (s : State) (place kind a : ℕ) → a ≤ 255 → StateFits s → StepFits (step s place kind a)
unfolding step
step_fits fresh place kind a h f =
    either (is_abducible kind) _ _ tt (either (is_false kind) _ _ (integrity_fits nothing) (either (is_minus kind) _ _ tt
    (either (is_atom kind) _ bars (let p : positive a < 512 = omega arith in rule_fits p nothing) tt)))
step_fits (declaring start) place kind a h f = either (is_atom kind) _ bars (abducible_fits h) tt
step_fits (declared line) place kind a h f = either (is_stop kind) (ends line) bars f tt
step_fits (negated start) place kind a h f = either (is_atom kind) _ bars (let p : negative a < 512 = omega arith in rule_fits p nothing) tt
step_fits (headed line) place kind a h f = either (is_stop kind) (ends line) _ f (either (is_arrow kind) (goes (due line)) bars f tt)
step_fits (due line) place kind a h f =
    either (is_not kind) (goes (denied line)) _ f (either (is_minus kind) (goes (negated_in line)) _ f
    (either (is_atom kind) (goes (said (also line (literal (positive a))))) bars (also_fits line (literal (positive a)) (omega arith) f) tt))
step_fits (denied line) place kind a h f =
    either (is_minus kind) (goes (denied_negated line)) _ f
    (either (is_atom kind) (goes (said (also line (default_negation (positive a))))) bars (also_fits line (default_negation (positive a)) (omega arith) f) tt)
step_fits (negated_in line) place kind a h f =
    either (is_atom kind) (goes (said (also line (literal (negative a))))) bars (also_fits line (literal (negative a)) (omega arith) f) tt
step_fits (denied_negated line) place kind a h f =
    either (is_atom kind) (goes (said (also line (default_negation (negative a))))) bars (also_fits line (default_negation (negative a)) (omega arith) f) tt
step_fits (said line) place kind a h f = either (is_comma kind) (goes (due line)) _ f (either (is_stop kind) (ends line) bars f tt)

none_left : (ls : List Line) → ◌≡◌ {A = Reading (List Line)} (accepted []) (accepted ls) → All Printable ls
none_left [] e = nothing
none_left (l ∷ more) e = absurd (let z : ◌≡◌ {A = ℕ} 0 1 = cc in omega arith)

end_fits : (s : State) (place : ℕ) (ls : List Line) → lines_from s (end place) ≡ accepted ls → All Printable ls
unfolding lines_from
end_fits fresh place ls e = none_left ls e
end_fits (declaring start) place ls e = refused_not e
end_fits (declared line) place ls e = refused_not e
end_fits (negated start) place ls e = refused_not e
end_fits (headed line) place ls e = refused_not e
end_fits (due line) place ls e = refused_not e
end_fits (denied line) place ls e = refused_not e
end_fits (negated_in line) place ls e = refused_not e
end_fits (denied_negated line) place ls e = refused_not e
end_fits (said line) place ls e = refused_not e

lines_fit : (s : State) (ts : Tokens) (ls : List Line) → Small ts → StateFits s → lines_from s ts ≡ accepted ls → All Printable ls
unfolding lines_from
lines_fit s (end place) ls small f e = end_fits s place ls e
lines_fit s (stray place) ls small f e = refused_not e
lines_fit s (token place kind a later) ls (small_token h small) f e =
    go (step s place kind a) (step_fits s place kind a h f) (λ t m g q. lines_fit t later m small g q) e
  where
    go : (x : Step) → StepFits x → ((t : State) (m : List Line) → StateFits t → lines_from t later ≡ accepted m → All Printable m)
        → follow x place (λ next. lines_from next later) ≡ accepted ls → All Printable ls
    go (goes t) g ih q = ih t ls g q
    go (ends line) g ih q =
        let r = through (lines_from fresh later) _ q in
        let same : line ∷ r.value ≡ ls = let after = r.after in cc in
        rw (← same) (each g (ih fresh r.value tt r.first))
    go bars g ih q = refused_not q

-- The lines of a text that was read name atoms below 256.
pub text_fits : (text : List ℕ) (ls : List Line) → lines_of text ≡ accepted ls → All Printable ls
text_fits text ls e = lines_fit fresh (tokens_from 0 0 text) ls (tokens_small 0 0 text) tt e

-- ---- and the atom count is above every atom named

all_append : {A : Type 0} {P : A → Type 0} {xs ys : List A} → All P xs → All P ys → All P (xs ++ ys)
all_append nothing ys = ys
all_append (each p ps) ys = each p (all_append ps ys)

pub all_split : {A : Type 0} {P : A → Type 0} (xs ys : List A) → All P (xs ++ ys) → All P xs × All P ys
all_split [] ys h = (nothing, h)
all_split (x ∷ xs) ys (each p ps) = let r = all_split xs ys ps in (each p r.0, r.1)

atoms_small : (ls : List ℕ) → All (◌< 1024) ls → All (◌< 256) (atoms_of ls)
unfolding atoms_of
atoms_small [] nothing = nothing
atoms_small (l ∷ more) (each h hs) = let x : l / 4 < 256 = omega arith in each x (atoms_small more hs)

pub named_small : (ls : List Line) → All Printable ls → All (◌< 256) (named_in ls)
unfolding named_in
named_small [] nothing = nothing
named_small (abducible start a ∷ more) (each (abducible_fits h) hs) = let x : a < 256 = omega arith in each x (named_small more hs)
named_small (rule start head body ∷ more) (each (rule_fits h b) hs) =
    let x : head / 2 < 256 = omega arith in each x (all_append (atoms_small body b) (named_small more hs))
named_small (integrity start body ∷ more) (each (integrity_fits b) hs) = all_append (atoms_small body b) (named_small more hs)

larger_left : (m n : ℕ) → m ≤ larger m n
larger_left m n = elim (dec_lt m n) [
  | yes h ↦ rw (lt-ltb m n h) (omega arith)
  | no h ↦ rw (le-ltb m n (omega arith)) (omega arith)
]

larger_right : (m n : ℕ) → n ≤ larger m n
larger_right m n = elim (dec_lt m n) [
  | yes h ↦ rw (lt-ltb m n h) (omega arith)
  | no h ↦ rw (le-ltb m n (omega arith)) (omega arith)
]

larger_most : (m n b : ℕ) → m ≤ b → n ≤ b → larger m n ≤ b
larger_most m n b p q = elim (dec_lt m n) [
  | yes h ↦ rw (lt-ltb m n h) q
  | no h ↦ rw (le-ltb m n (omega arith)) p
]

pub count_some : (l : List ℕ) → 1 ≤ count_of l
unfolding count_of
count_some [] = omega arith
count_some (a ∷ more) = let x = larger_right (a + 1) (count_of more) in let ih = count_some more in omega arith

pub count_most : (l : List ℕ) → All (◌< 256) l → count_of l ≤ 256
unfolding count_of
count_most [] nothing = omega arith
count_most (a ∷ more) (each h hs) = larger_most (a + 1) (count_of more) 256 (omega arith) (count_most more hs)

below_all : (b n : ℕ) → b ≤ n → (l : List ℕ) → All (◌< b) l → All (◌< n) l
below_all b n h [] nothing = nothing
below_all b n h (x ∷ more) (each p ps) = let q : x < n = omega arith in each q (below_all b n h more ps)

pub count_above : (l : List ℕ) → All (◌< count_of l) l
unfolding count_of
count_above [] = nothing
count_above (a ∷ more) =
    let x = larger_left (a + 1) (count_of more) in
    let here : a < larger (a + 1) (count_of more) = omega arith in
    each here (below_all (count_of more) (larger (a + 1) (count_of more)) (larger_right (a + 1) (count_of more)) more (count_above more))

-- ---- so only the count (9), the length (3) and the head (8) can fail

rising_lower : (a b : ℕ) → a ≤ b → (l : List ℕ) → Rising b l → Rising a l
rising_lower a b h [] flat = flat
rising_lower a b h (x ∷ more) (above r rising) = let q : a ≤ x = omega arith in above {a = x} q rising

rising_rises : (names : List ℕ) (atom count : ℕ) → Rising atom (rising_from names atom count) × All (◌< atom + count) (rising_from names atom count)
unfolding rising_from
rising_rises names atom zero = (flat, nothing)
rising_rises names atom (suc count) = go (is_among names atom) (rising_rises names (atom + 1) count)
  where
    later : List ℕ
    later = rising_from names (atom + 1) count

    go : (t : Bool) → Rising (atom + 1) later × All (◌< atom + 1 + count) later
        → Rising atom (cond t (atom ∷ later) later) × All (◌< atom + suc count) (cond t (atom ∷ later) later)
    go true ih =
        let e : atom + 1 + count ≡ atom + suc count = omega arith in
        let p : atom ≤ atom = omega arith in
        let q : atom < atom + suc count = omega arith in
        (above {a = atom} p ih.0, each q (rw e at ih.1))
    go false ih =
        let e : atom + 1 + count ≡ atom + suc count = omega arith in
        let p : atom ≤ atom + 1 = omega arith in
        (rising_lower atom (atom + 1) p later ih.0, rw e at ih.1)

listed_literals : (n : ℕ) (ls : List ℕ) → All (◌< n) (atoms_of ls) → All (◌< 4 * n) ls
unfolding atoms_of
listed_literals n [] nothing = nothing
listed_literals n (l ∷ more) (each h hs) = let x : l < 4 * n = omega arith in each x (listed_literals n more hs)

-- The numbers of a typed rule: its head is checked by 8 alone; those of a typed integrity rule by nothing.
pub record RuleChecked (n : ℕ) (abducibles content : List ℕ) : Type 0 where
  pub head : ℕ
  pub body : List ℕ
  pub is : content ≡ head ∷ body
  pub fault : body_fault 0x04 n abducibles content ≡ check (not (is_among abducibles (head / 2))) 8 0

pub rules_checked : (n : ℕ) (abducibles : List ℕ) (ls : List Line) → All (◌< n) (named_in ls) → All (RuleChecked n abducibles) (map its (rules_in ls))
unfolding named_in rules_in body_fault rule_fault
rules_checked n abducibles [] h = nothing
rules_checked n abducibles (abducible start a ∷ more) (each p ps) = rules_checked n abducibles more ps
rules_checked n abducibles (rule start head body ∷ more) (each p ps) =
    let s = all_split (atoms_of body) (named_in more) ps in
    let small : head < 2 * n = omega arith in
    let e : literals_fault true n body ≡ 0 = body_literals_fit n body (plain_body n (listed_literals n body s.0)) in
    each (record { head = head; body = body; is = refl; fault = rw (lt-ltb head (2 * n) small, e) }) (rules_checked n abducibles more s.1)
rules_checked n abducibles (integrity start body ∷ more) h = rules_checked n abducibles more (all_split (atoms_of body) (named_in more) h).1

pub integrity_checked : (n : ℕ) (abducibles : List ℕ) (ls : List Line) → All (◌< n) (named_in ls)
    → All (λ content. body_fault 0x05 n abducibles content ≡ 0) (map its (integrity_in ls))
unfolding named_in integrity_in body_fault
integrity_checked n abducibles [] h = nothing
integrity_checked n abducibles (abducible start a ∷ more) (each p ps) = integrity_checked n abducibles more ps
integrity_checked n abducibles (rule start head body ∷ more) (each p ps) = integrity_checked n abducibles more (all_split (atoms_of body) (named_in more) ps).1
integrity_checked n abducibles (integrity start body ∷ more) h =
    let s = all_split (atoms_of body) (named_in more) h in
    each (body_literals_fit n body (plain_body n (listed_literals n body s.0))) (integrity_checked n abducibles more s.1)

-- No literal is u: neither of a typed rule,
rules_typable : (n : ℕ) (ls : List Line) → All (◌< n) (named_in ls) → All (λ (r : Rule). All (◌< 4 * n) r.body) (map rule_of (map its (rules_in ls)))
unfolding named_in rules_in rule_of
rules_typable n [] h = nothing
rules_typable n (abducible start a ∷ more) (each p ps) = rules_typable n more ps
rules_typable n (rule start head body ∷ more) (each p ps) =
    let s = all_split (atoms_of body) (named_in more) ps in
    each (listed_literals n body s.0) (rules_typable n more s.1)
rules_typable n (integrity start body ∷ more) h = rules_typable n more (all_split (atoms_of body) (named_in more) h).1

-- nor of a typed integrity rule.
integrity_typable : (n : ℕ) (ls : List Line) → All (◌< n) (named_in ls) → All (All (◌< 4 * n)) (map its (integrity_in ls))
unfolding named_in integrity_in
integrity_typable n [] h = nothing
integrity_typable n (abducible start a ∷ more) (each p ps) = integrity_typable n more ps
integrity_typable n (rule start head body ∷ more) (each p ps) = integrity_typable n more (all_split (atoms_of body) (named_in more) ps).1
integrity_typable n (integrity start body ∷ more) h =
    let s = all_split (atoms_of body) (named_in more) h in
    each (listed_literals n body s.0) (integrity_typable n more s.1)

pub typed_typable : (lines : List Line) → Typable (program_typed lines)
unfolding program_typed
typed_typable lines =
    let named = named_in lines in
    record { rules = rules_typable (count_of named) lines (count_above named); integrity = integrity_typable (count_of named) lines (count_above named) }

-- What is known of the program that a text's lines type.
pub record TypedFits (lines : List Line) (p : Program) : Type 0 where
  pub atoms : atoms_fault p.atoms ≡ 0
  pub abducibles : abducibles_fault p.atoms 0 p.abducibles ≡ 0
  pub rules : All (RuleChecked p.atoms p.abducibles) (map its (rules_in lines))
  pub integrity : All (λ content. body_fault 0x05 p.atoms p.abducibles content ≡ 0) (map its (integrity_in lines))

pub typed_fits : (text : List ℕ) (lines : List Line) → lines_of text ≡ accepted lines → TypedFits lines (program_typed lines)
unfolding program_typed
typed_fits text lines e =
    let named = named_in lines in
    let n = count_of named in
    let names = map its (declared_in lines) in
    let rises = rising_rises names 0 n in
    let z : 0 + n ≡ n = omega arith in
    let over = count_above named in
    record {
      atoms = atoms_fit n (count_some named) (count_most named (named_small lines (text_fits text lines e)));
      abducibles = abducibles_fit n 0 (rising_from names 0 n) (rw z at rises.1) rises.0;
      rules = rules_checked n (rising_from names 0 n) lines over;
      integrity = integrity_checked n (rising_from names 0 n) lines over;
    }
