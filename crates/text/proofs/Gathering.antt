-- The numbers of a line, gathered token by token.
-- Assumes nothing.
use mathlib.Core.Path.{◌≡◌, refl, sym, ap, ◌∙◌}
use mathlib.Core.Bool.{Bool, true, false, cond}
use mathlib.Core.List.{List, [], ◌∷◌, ◌++◌}
use Prim.Native.Nat.{ℕ, zero, suc, ◌+◌, ◌*◌, ◌≤◌, ◌<◌}
use native.Mathlib.Decide.{dec_lt}
use native.Mathlib.Omega.{arith}
use borrow.Author.Tests.{ne_eqb, eqb-true, lt-ltb, le-ltb}
use lib.Dec.{eqb}
use lib.ListN.{length, set}
use Rattle.literals.specs.Numbering.{positive, negative, literal, default_negation}
use Rattle.text.specs.declared.line.Stage.{Stage}
use Rattle.text.specs.Lines.{Line, abducible, rule, integrity, also, State, fresh, declaring, declared, negated, headed, due, denied, negated_in}
use Rattle.text.specs.Lines.{denied_negated, said, Step, goes, ends, bars, is_atom, is_minus, is_not, is_arrow, is_comma, is_stop, is_abducible, is_false, step}
use Rattle.text.specs.Briefly.{tag_of, numbers_of, few, brief, stage_of}
use Rattle.text.specs.LineNumbers.{padded, place_of, place_said, number_said}

-- ---- numbers and zeros after them

pub padded_more : (room : ℕ) (ns : List ℕ) (l : ℕ) → padded room (ns ++ (l ∷ [])) ≡ set (padded room ns) (length ns) l
unfolding padded
padded_more zero [] l = refl
padded_more zero (n ∷ ns) l = refl
padded_more (suc room) [] l = refl
padded_more (suc room) (n ∷ ns) l = ap (λ (x : List ℕ). n ∷ x) (padded_more room ns l)

pub padded_length : (room : ℕ) (ns : List ℕ) → length (padded room ns) ≡ room
unfolding padded
padded_length zero ns = refl
padded_length (suc room) [] = ap suc (padded_length room [])
padded_length (suc room) (n ∷ ns) = ap suc (padded_length room ns)

-- Past the room nothing is written.
padded_past : (room : ℕ) (ns : List ℕ) (i l : ℕ) → room ≤ i → set (padded room ns) i l ≡ padded room ns
unfolding padded
padded_past zero ns zero l h = refl
padded_past zero ns (suc i) l h = refl
padded_past (suc room) [] zero l h = absurd (omega arith)
padded_past (suc room) (n ∷ ns) zero l h = absurd (omega arith)
padded_past (suc room) [] (suc i) l h = ap (λ (x : List ℕ). 0 ∷ x) (padded_past room [] i l (omega arith))
padded_past (suc room) (n ∷ ns) (suc i) l h = ap (λ (x : List ℕ). n ∷ x) (padded_past room ns i l (omega arith))

padded_few : (ns : List ℕ) (l : ℕ) → padded 17 (ns ++ (l ∷ [])) ≡ set (padded 17 ns) (few (length ns)) l
unfolding few
padded_few ns l = elim (dec_lt (length ns) 18) [
  | yes h ↦ rw (lt-ltb (length ns) 18 h) (padded_more 17 ns l)
  | no h ↦
      rw (le-ltb (length ns) 18 (omega arith))
      (padded_more 17 ns l ∙ padded_past 17 ns (length ns) l (omega arith) ∙ sym (padded_past 17 ns 18 l (omega arith)))
]

-- ---- what a state has of them

abbrev pub numbers_in : State → List ℕ
numbers_in fresh = []
numbers_in (declaring start) = []
numbers_in (declared line) = numbers_of line
numbers_in (negated start) = []
numbers_in (headed line) = numbers_of line
numbers_in (due line) = numbers_of line
numbers_in (denied line) = numbers_of line
numbers_in (negated_in line) = numbers_of line
numbers_in (denied_negated line) = numbers_of line
numbers_in (said line) = numbers_of line

-- A line that takes literals is no declaration.
abbrev pub Sound : State → Type 0
Sound fresh = Unit {0}
Sound (declaring start) = Unit {0}
Sound (declared line) = Unit {0}
Sound (negated start) = Unit {0}
Sound (headed line) = tag_of line ≡ 0x03 → ⊥
Sound (due line) = tag_of line ≡ 0x03 → ⊥
Sound (denied line) = tag_of line ≡ 0x03 → ⊥
Sound (negated_in line) = tag_of line ≡ 0x03 → ⊥
Sound (denied_negated line) = tag_of line ≡ 0x03 → ⊥
Sound (said line) = tag_of line ≡ 0x03 → ⊥

also_numbers : (line : Line) (l : ℕ) → (tag_of line ≡ 0x03 → ⊥) → numbers_of (also line l) ≡ numbers_of line ++ (l ∷ [])
unfolding tag_of numbers_of
also_numbers (abducible start a) l h = absurd (h refl)
also_numbers (rule start head body) l h = refl
also_numbers (integrity start body) l h = refl

also_sound : (line : Line) (l : ℕ) → (tag_of line ≡ 0x03 → ⊥) → tag_of (also line l) ≡ 0x03 → ⊥
unfolding tag_of
also_sound (abducible start a) l h = h
also_sound (rule start head body) l h = h
also_sound (integrity start body) l h = h

-- ---- a token

-- What a step does to them.
abbrev pub Gathers : State → ℕ → ℕ → Step → Type 0
Gathers s kind a (goes t) = Sound t × (padded 17 (numbers_in t) ≡ set (padded 17 (numbers_in s)) (place_said (stage_of s) kind) (number_said (stage_of s) a))
Gathers s kind a (ends line) = numbers_of line ≡ numbers_in s
Gathers s kind a bars = Unit {0}

chosen : (s : State) (kind a : ℕ) (t : Bool) (x y : Step) → (t ≡ true → Gathers s kind a x) → (t ≡ false → Gathers s kind a y) → Gathers s kind a (cond t x y)
chosen s kind a true x y p q = p refl
chosen s kind a false x y p q = q refl

-- Another token than an atom has no number.
quiet : (σ : Stage) (kind k : ℕ) → eqb kind k ≡ true → (k ≡ 0x70 → ⊥) → (ns : List ℕ) (v : ℕ) → padded 17 ns ≡ set (padded 17 ns) (place_said σ kind) v
unfolding place_said
quiet σ kind k e h ns v =
    rw (ne_eqb kind 0x70 (λ q. h (sym (eqb-true kind k e) ∙ q))) (sym (padded_past 17 ns 17 v (omega arith)))

-- The first number of a line.
opens : (σ : Stage) (kind n v : ℕ) → is_atom kind ≡ true → place_of σ ≡ 0 → n ≡ v → padded 17 (n ∷ []) ≡ set (padded 17 []) (place_said σ kind) v
unfolding place_said
opens σ kind n v e p q = rw (e, p, q) (padded_more 17 [] v)

-- One literal more.
adds : (σ : Stage) (line : Line) (kind l v : ℕ) → (tag_of line ≡ 0x03 → ⊥) → is_atom kind ≡ true → place_of σ ≡ (brief line).count → l ≡ v
    → padded 17 (numbers_of (also line l)) ≡ set (padded 17 (numbers_of line)) (place_said σ kind) v
unfolding place_said brief
adds σ line kind l v h e p q = rw (e, p, q, also_numbers line v h) (padded_few (numbers_of line) v)

not_atom : {k : ℕ} → k < 0x70 → k ≡ 0x70 → ⊥
not_atom h e = omega arith

pub gathers : (s : State) (place kind a : ℕ) → Sound s → Gathers s kind a (step s place kind a)
unfolding step number_said
gathers fresh place kind a h =
    chosen fresh kind a (is_abducible kind) _ _ (λ e. (tt, quiet (stage_of fresh) kind 0x61 e (not_atom (omega arith)) [] (2 * a)))
    (λ n. chosen fresh kind a (is_false kind) _ _
    (λ e. ((unfold tag_of in λ q. omega arith), (unfold numbers_of in quiet (stage_of fresh) kind 0x66 e (not_atom (omega arith)) [] (2 * a))))
    (λ n. chosen fresh kind a (is_minus kind) _ _ (λ e. (tt, quiet (stage_of fresh) kind 0x2D e (not_atom (omega arith)) [] (2 * a)))
    (λ n. chosen fresh kind a (is_atom kind) _ _
    (λ e. ((unfold tag_of in λ q. omega arith), (unfold numbers_of in opens (stage_of fresh) kind (positive a) (2 * a) e refl (omega arith)))) (λ n. tt))))
gathers (declaring start) place kind a h =
    chosen (declaring start) kind a (is_atom kind) _ _ (λ e. (tt, (unfold numbers_of in opens (stage_of (declaring start)) kind a a e refl refl))) (λ n. tt)
gathers (declared line) place kind a h = chosen (declared line) kind a (is_stop kind) _ _ (λ e. refl) (λ n. tt)
gathers (negated start) place kind a h =
    chosen (negated start) kind a (is_atom kind) _ _
    (λ e. ((unfold tag_of in λ q. omega arith), (unfold numbers_of in opens (stage_of (negated start)) kind (negative a) (2 * a + 1) e refl (omega arith))))
    (λ n. tt)
gathers (headed line) place kind a h =
    chosen (headed line) kind a (is_stop kind) _ _ (λ e. refl)
    (λ n. chosen (headed line) kind a (is_arrow kind) _ _
    (λ e. (h, quiet (stage_of (headed line)) kind 0x3A e (not_atom (omega arith)) (numbers_of line) 0)) (λ n. tt))
gathers (due line) place kind a h =
    chosen (due line) kind a (is_not kind) _ _ (λ e. (h, quiet (stage_of (due line)) kind 0x6E e (not_atom (omega arith)) (numbers_of line) (4 * a)))
    (λ n. chosen (due line) kind a (is_minus kind) _ _ (λ e. (h, quiet (stage_of (due line)) kind 0x2D e (not_atom (omega arith)) (numbers_of line) (4 * a)))
    (λ n. chosen (due line) kind a (is_atom kind) _ _
    (λ e. let l = literal (positive a) in (also_sound line l h, adds (stage_of (due line)) line kind l (4 * a) h e refl (omega arith))) (λ n. tt)))
gathers (denied line) place kind a h =
    chosen (denied line) kind a (is_minus kind) _ _
    (λ e. (h, quiet (stage_of (denied line)) kind 0x2D e (not_atom (omega arith)) (numbers_of line) (4 * a + 1)))
    (λ n. chosen (denied line) kind a (is_atom kind) _ _
    (λ e. let l = default_negation (positive a) in (also_sound line l h, adds (stage_of (denied line)) line kind l (4 * a + 1) h e refl (omega arith)))
    (λ n. tt))
gathers (negated_in line) place kind a h =
    chosen (negated_in line) kind a (is_atom kind) _ _
    (λ e. let l = literal (negative a) in (also_sound line l h, adds (stage_of (negated_in line)) line kind l (4 * a + 2) h e refl (omega arith)))
    (λ n. tt)
gathers (denied_negated line) place kind a h =
    chosen (denied_negated line) kind a (is_atom kind) _ _
    (λ e. let l = default_negation (negative a) in (also_sound line l h, adds (stage_of (denied_negated line)) line kind l (4 * a + 3) h e refl (omega arith)))
    (λ n. tt)
gathers (said line) place kind a h =
    chosen (said line) kind a (is_comma kind) _ _ (λ e. (h, quiet (stage_of (said line)) kind 0x2C e (not_atom (omega arith)) (numbers_of line) 0))
    (λ n. chosen (said line) kind a (is_stop kind) _ _ (λ e. refl) (λ n. tt))
