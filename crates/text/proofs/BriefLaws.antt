-- The automaton that the code runs is the automaton: what is held of a line is what it says, briefly.
-- Assumes nothing.
use mathlib.Core.Path.{◌≡◌, refl, sym, ap, ◌∙◌}
use mathlib.Core.Bool.{Bool, true, false, cond}
use mathlib.Core.List.{List, [], ◌∷◌, ◌++◌, append_assoc, append-nil}
use Prim.Native.Nat.{ℕ, ◌+◌, ◌/◌, ◌≤◌}
use native.Mathlib.Decide.{dec_lt}
use native.Mathlib.Omega.{arith}
use borrow.Author.Tests.{lt-ltb, le-ltb}
use lib.ListN.{length, length-append}
use Rattle.literals.specs.Numbering.{positive, negative, literal, default_negation}
use Rattle.text.specs.declared.line.LineKind.{LineKind}
use Rattle.text.specs.declared.line.LineKind.TheVariants as types
use Rattle.text.specs.declared.line.Brief.{Brief}
use Rattle.text.specs.declared.line.Stage.TheVariants as stage
use Rattle.text.specs.declared.line.Move.{Move}
use Rattle.text.specs.declared.line.Move.TheVariants.{Goes}
use Rattle.text.specs.Lines.{Line, abducible, rule, integrity, also, State, fresh, declaring, declared, negated, headed, due, denied, negated_in}
use Rattle.text.specs.Lines.{denied_negated, said, Step, is_atom, is_minus, is_not, is_arrow, is_comma, is_stop, is_abducible, is_false, step}
use Rattle.text.specs.Typed.{atoms_of, named_in, larger, count_of}
use Rattle.text.specs.Briefly.{tag_of, kind_of_line, tag_byte, start_of, atom_of, numbers_of, few, briefly, brief, stage_of, move_of}
use Rattle.text.specs.Briefly.{denial_briefly, opened_briefly, also_briefly, step_briefly}
use Rattle.text.proofs.Fitting.{count_some}

-- ---- how many numbers

few_more : (n : ℕ) → few (few n + 1) ≡ few (n + 1)
unfolding few
few_more n = elim (dec_lt n 17) [
  | yes h ↦ rw (lt-ltb n 18 (omega arith), lt-ltb (n + 1) 18 (omega arith))
  | no h ↦ elim (dec_lt n 18) [
    | yes k ↦ rw (lt-ltb n 18 k, le-ltb (n + 1) 18 (omega arith))
    | no k ↦ rw (le-ltb n 18 (omega arith), le-ltb (n + 1) 18 (omega arith))
  ]
]

-- ---- the greatest atom

larger_is_right : (m n : ℕ) → m ≤ n → larger m n ≡ n
larger_is_right m n h = elim (dec_lt m n) [
  | yes k ↦ rw (lt-ltb m n k)
  | no k ↦ rw (le-ltb m n (omega arith)) (omega arith)
]

larger_is_left : (m n : ℕ) → n ≤ m → larger m n ≡ m
larger_is_left m n h = rw (le-ltb m n h)

larger_three : (m n k : ℕ) → larger m (larger n k) ≡ larger (larger m n) k
larger_three m n k = elim (dec_lt n k) [
  | yes h ↦ rw (larger_is_right n k (omega arith)) (elim (dec_lt m n) [
    | yes g ↦ rw (larger_is_right m n (omega arith), larger_is_right m k (omega arith), larger_is_right n k (omega arith))
    | no g ↦ rw (larger_is_left m n (omega arith))
  ])
  | no h ↦ rw (larger_is_left n k (omega arith)) (elim (dec_lt m n) [
    | yes g ↦ rw (larger_is_right m n (omega arith), larger_is_left n k (omega arith))
    | no g ↦ rw (larger_is_left m n (omega arith), larger_is_left m k (omega arith))
  ])
]

pub count_append : (xs ys : List ℕ) → count_of (xs ++ ys) ≡ larger (count_of xs) (count_of ys)
unfolding count_of
count_append [] ys = sym (larger_is_right 1 (count_of ys) (count_some ys))
count_append (a ∷ xs) ys = ap (larger (a + 1)) (count_append xs ys) ∙ larger_three (a + 1) (count_of xs) (count_of ys)

pub named_append : (xs ys : List Line) → named_in (xs ++ ys) ≡ named_in xs ++ named_in ys
unfolding named_in
named_append [] ys = refl
named_append (abducible start a ∷ xs) ys = ap (λ (l : List ℕ). a ∷ l) (named_append xs ys)
named_append (rule start head body ∷ xs) ys =
    ap (λ (l : List ℕ). head / 2 ∷ l)
    (ap (λ (l : List ℕ). atoms_of body ++ l) (named_append xs ys) ∙ sym (append_assoc (atoms_of body) (named_in xs) (named_in ys)))
named_append (integrity start body ∷ xs) ys =
    ap (λ (l : List ℕ). atoms_of body ++ l) (named_append xs ys) ∙ sym (append_assoc (atoms_of body) (named_in xs) (named_in ys))

atoms_append : (xs : List ℕ) (l : ℕ) → atoms_of (xs ++ (l ∷ [])) ≡ atoms_of xs ++ (l / 4 ∷ [])
unfolding atoms_of
atoms_append [] l = refl
atoms_append (x ∷ xs) l = ap (λ (more : List ℕ). x / 4 ∷ more) (atoms_append xs l)

-- The atoms of a body and of one literal more.
body_named : (body : List ℕ) (a l : ℕ) → l / 4 ≡ a → atoms_of (body ++ (l ∷ [])) ++ [] ≡ (atoms_of body ++ []) ++ (a ∷ [])
body_named body a l e = rw (atoms_append body l, append-nil (atoms_of body), e, append-nil (atoms_of body ++ (a ∷ [])))

one_counted : (a : ℕ) → count_of (a ∷ []) ≡ a + 1
unfolding count_of
one_counted a = larger_is_left (a + 1) 1 (omega arith)

body_counted : (xs ys : List ℕ) (a : ℕ) → xs ≡ ys ++ (a ∷ []) → count_of xs ≡ larger (count_of ys) (a + 1)
body_counted xs ys a e = ap count_of e ∙ count_append ys (a ∷ []) ∙ ap (larger (count_of ys)) (one_counted a)

above_more : (line : Line) (a l : ℕ) → (tag_of line ≡ 0x03 → ⊥) → l / 4 ≡ a
    → count_of (named_in (also line l ∷ [])) ≡ larger (count_of (named_in (line ∷ []))) (a + 1)
unfolding named_in tag_of
above_more (abducible start b) a l h e = absurd (h refl)
above_more (rule start head body) a l h e =
    let named = ap (λ (x : List ℕ). head / 2 ∷ x) (body_named body a l e) in
    body_counted (head / 2 ∷ (atoms_of (body ++ (l ∷ [])) ++ [])) (head / 2 ∷ (atoms_of body ++ [])) a named
above_more (integrity start body) a l h e = body_counted (atoms_of (body ++ (l ∷ [])) ++ []) (atoms_of body ++ []) a (body_named body a l e)

-- ---- the tag of its field

pub kind_tag : (line : Line) → tag_byte (kind_of_line line) ≡ tag_of line
unfolding kind_of_line tag_of
kind_tag (abducible start a) = refl
kind_tag (rule start head body) = refl
kind_tag (integrity start body) = refl

-- ---- a line with one more literal

grown : (kind : LineKind) (start atom above new : ℕ) (ns : List ℕ) (l : ℕ) → new ≡ above
    → briefly kind start atom new (few (length (ns ++ (l ∷ [])))) ≡ briefly kind start atom above (few (few (length ns) + 1))
grown kind start atom above new ns l e =
    let size : length (ns ++ (l ∷ [])) ≡ length ns + 1 = length-append ns (l ∷ []) in
    rw (e, size, few_more (length ns))

brief_also : (line : Line) (a l : ℕ) → l / 4 ≡ a → brief (also line l) ≡ also_briefly (brief line) a
unfolding brief also_briefly kind_of_line start_of atom_of numbers_of
brief_also (abducible start b) a l e = refl
brief_also (rule start head body) a l e =
    grown types.Rule start (head / 2) _ _ (head ∷ body) l (above_more (rule start head body) a l (unfold tag_of in λ q. omega arith) e)
brief_also (integrity start body) a l e = grown types.Integrity start 0 _ _ body l (above_more (integrity start body) a l (unfold tag_of in λ q. omega arith) e)

said_brief : (line : Line) (a l : ℕ) → l / 4 ≡ a → Goes (stage.Said (brief (also line l))) ≡ Goes (stage.Said (also_briefly (brief line) a))
said_brief line a l q = ap (λ (b : Brief). Goes (stage.Said b)) (brief_also line a l q)

-- ---- a line that begins

rule_opened : (start head a : ℕ) → head / 2 ≡ a → brief (rule start head []) ≡ opened_briefly types.Rule start a
unfolding brief kind_of_line start_of atom_of numbers_of named_in few atoms_of
rule_opened start head a e = rw (e, one_counted a)

declared_opened : (start a : ℕ) → brief (abducible start a) ≡ opened_briefly types.Abducible start a
unfolding brief kind_of_line start_of atom_of numbers_of named_in few
declared_opened start a = rw (one_counted a)

denied_opened : (start : ℕ) → brief (integrity start []) ≡ denial_briefly start
unfolding brief kind_of_line start_of atom_of numbers_of named_in few atoms_of count_of
denied_opened start = refl

-- ---- what a token does

picked : (t : Bool) (x y : Step) (m n : Move) → move_of x ≡ m → move_of y ≡ n → move_of (cond t x y) ≡ cond t m n
picked true x y m n e f = e
picked false x y m n e f = f

headed_is : {b c : Brief} → b ≡ c → Goes (stage.Headed b) ≡ Goes (stage.Headed c)
headed_is e = ap (λ (b : Brief). Goes (stage.Headed b)) e

pub step_brief : (s : State) (place kind a : ℕ) → move_of (step s place kind a) ≡ step_briefly (stage_of s) place kind a
unfolding step step_briefly
step_brief fresh place kind a =
    picked (is_abducible kind) _ _ _ _ refl (picked (is_false kind) _ _ _ _ (headed_is (denied_opened place)) (picked (is_minus kind) _ _ _ _ refl
    (picked (is_atom kind) _ _ _ _ (headed_is (rule_opened place (positive a) a (omega arith))) refl)))
step_brief (declaring start) place kind a = picked (is_atom kind) _ _ _ _ (ap (λ (b : Brief). Goes (stage.Declared b)) (declared_opened start a)) refl
step_brief (declared line) place kind a = picked (is_stop kind) _ _ _ _ refl refl
step_brief (negated start) place kind a = picked (is_atom kind) _ _ _ _ (headed_is (rule_opened start (negative a) a (omega arith))) refl
step_brief (headed line) place kind a = picked (is_stop kind) _ _ _ _ refl (picked (is_arrow kind) _ _ _ _ refl refl)
step_brief (due line) place kind a =
    picked (is_not kind) _ _ _ _ refl (picked (is_minus kind) _ _ _ _ refl
    (picked (is_atom kind) _ _ _ _ (said_brief line a (literal (positive a)) (omega arith)) refl))
step_brief (denied line) place kind a =
    picked (is_minus kind) _ _ _ _ refl
    (picked (is_atom kind) _ _ _ _ (said_brief line a (default_negation (positive a)) (omega arith)) refl)
step_brief (negated_in line) place kind a =
    picked (is_atom kind) _ _ _ _ (said_brief line a (literal (negative a)) (omega arith)) refl
step_brief (denied_negated line) place kind a =
    picked (is_atom kind) _ _ _ _ (said_brief line a (default_negation (negative a)) (omega arith)) refl
step_brief (said line) place kind a = picked (is_comma kind) _ _ _ _ refl (picked (is_stop kind) _ _ _ _ refl refl)
