-- What is printed is read: the tokens of each printed piece, and what the line says after them.
-- Assumes nothing.
use mathlib.Core.Path.{◌≡◌, refl, ◌∙◌}
use mathlib.Core.Bool.{false}
use mathlib.Core.List.{List, [], ◌∷◌, ◌++◌, map, append-nil, append_assoc}
use Prim.Native.Nat.{ℕ, suc, ◌+◌, ◌*◌, ◌-◌, ◌/◌, ◌%◌, ◌≤◌, ◌<◌}
use native.Mathlib.Omega.{arith}
use native.Mathlib.Decide.{dec_lt, ℕ_discrete}
use borrow.Author.Tests.{eq-eqb, ne_eqb, le-leb, lt-ltb, le-ltb}
use Rattle.literals.specs.Numbering.{positive, negative, literal, default_negation}
use Rattle.papers.specs.Valid.{All, none, each}
use Rattle.text.specs.Tokens.{is_blank, is_digit, digits, digit_of, value, atom_allowed, begins, words, word_size, atom_size, token_size, number_after}
use Rattle.text.specs.Tokens.{token, tokens_from}
use Rattle.text.specs.Lines.{accepted, and_then, Line, abducible, rule, integrity, also, State, fresh, declaring, declared, negated, headed, due}
use Rattle.text.specs.Lines.{denied, negated_in, denied_negated, said, step, lines_from}
use Rattle.text.specs.Printing.{digit, decimal, atom_text, objective_text, literal_text, later_text, body_text, line_text, lines_text}
use Rattle.text.proofs.TokenLaws.{digits_none}

-- ---- digits

digit_cons : (d : ℕ) (rest : List ℕ) → d ≤ 9 → digits (digit d ∷ rest) ≡ d ∷ digits rest
unfolding digits is_digit
digit_cons d rest h =
    let e : 48 + d - 48 ≡ d = omega arith in
    rw (le-leb 48 (48 + d) (omega arith), le-leb (48 + d) 57 (omega arith), e)

-- One token of the text, by its size.
pub token_first : (place b : ℕ) (more : List ℕ) {k v : ℕ} → is_blank b ≡ false → token_size (b ∷ more) ≡ suc k → number_after (b ∷ more) ≡ v
    → tokens_from place 0 (b ∷ more) ≡ token place b v (tokens_from (place + 1) k more)
unfolding tokens_from
token_first place b more blank size number = rw (blank, size, number)

-- The tokens of an atom, its digits given.
module _ (place : ℕ) (rest : List ℕ) (stop : digit_of rest ≡ 10) where
  abbrev Reads : ℕ → List ℕ → Type 0
  Reads a bytes = (after : ℕ) × (tokens_from place 0 bytes ≡ token place 0x70 a (tokens_from after 0 rest))

  one : (a : ℕ) → a < 10 → Reads a (0x70 ∷ digit a ∷ rest)
  unfolding tokens_from is_blank token_size atom_size number_after atom_allowed value
  one a h =
      let e : digits (digit a ∷ rest) ≡ a ∷ [] = rw (digit_cons a rest (omega arith), digits_none rest stop) in
      (place + 1 + 1, token_first place 0x70 (digit a ∷ rest) {k = 1} refl (rw e) (rw e (omega arith)))

  two : (a x y : ℕ) → x ≤ 9 → y ≤ 9 → 1 ≤ x → a ≡ 10 * x + y → a ≤ 255 → Reads a (0x70 ∷ digit x ∷ digit y ∷ rest)
  unfolding tokens_from is_blank token_size atom_size number_after atom_allowed value
  two a x y p q s is h =
      let e : digits (digit x ∷ digit y ∷ rest) ≡ x ∷ y ∷ [] = rw (digit_cons x (digit y ∷ rest) p, digit_cons y rest q, digits_none rest stop) in (
        place + 1 + 1 + 1,
        token_first place 0x70 (digit x ∷ digit y ∷ rest) {k = 2} refl
            (rw (e, ne_eqb x 0 (omega arith), le-leb (10 * (10 * 0 + x) + y) 255 (omega arith))) (rw e (omega arith)),
      )

  three : (a x y z : ℕ) → x ≤ 9 → y ≤ 9 → z ≤ 9 → 1 ≤ x → a ≡ 100 * x + 10 * y + z → a ≤ 255 → Reads a (0x70 ∷ digit x ∷ digit y ∷ digit z ∷ rest)
  unfolding tokens_from is_blank token_size atom_size number_after atom_allowed value
  three a x y z p q r s is h =
      let e : digits (digit x ∷ digit y ∷ digit z ∷ rest) ≡ x ∷ y ∷ z ∷ [] =
      rw (digit_cons x (digit y ∷ digit z ∷ rest) p, digit_cons y (digit z ∷ rest) q, digit_cons z rest r, digits_none rest stop) in (
        place + 1 + 1 + 1 + 1,
        token_first place 0x70 (digit x ∷ digit y ∷ digit z ∷ rest) {k = 3} refl
            (rw (e, ne_eqb x 0 (omega arith), le-leb (10 * (10 * (10 * 0 + x) + y) + z) 255 (omega arith))) (rw e (omega arith)),
      )

  pub atom_printed : (a : ℕ) → a ≤ 255 → Reads a (atom_text a rest)
  unfolding atom_text decimal
  atom_printed a h = elim (dec_lt a 10) [
    | yes q ↦ rw (lt-ltb a 10 q) (one a q)
    | no q ↦ elim (dec_lt a 100) [
      | yes r ↦ rw (le-ltb a 10 (omega arith), lt-ltb a 100 r) (two a (a / 10) (a % 10) (omega arith) (omega arith) (omega arith) (omega arith) h)
      | no r ↦ rw (le-ltb a 10 (omega arith), le-ltb a 100 (omega arith))
          (three a (a / 100) (a / 10 % 10) (a % 10) (omega arith) (omega arith) (omega arith) (omega arith) (omega arith) h)
    ]
  ]

-- ---- what a line says after a printed piece, wherever the piece stands

record Goes (s : State) (bytes : List ℕ) (t : State) (rest : List ℕ) : Type 0 where
  reads : (place : ℕ) → (after : ℕ) × (lines_from s (tokens_from place 0 bytes) ≡ lines_from t (tokens_from after 0 rest))

then : {s t u : State} {bytes mid rest : List ℕ} → Goes s bytes t mid → Goes t mid u rest → Goes s bytes u rest
then g h = record { reads = λ place. let a = g.reads place in let b = h.reads a.0 in (b.0, a.1 ∙ b.1) }

module _ (line : Line) (rest : List ℕ) where
  comma : Goes (said line) (0x2C ∷ 0x20 ∷ rest) (due line) rest
  unfolding tokens_from is_blank token_size number_after words word_size begins lines_from step
  comma = record { reads = λ place. (place + 1 + 1, refl) }

  arrow : Goes (headed line) (0x20 ∷ 0x3A ∷ 0x2D ∷ 0x20 ∷ rest) (due line) rest
  unfolding tokens_from is_blank token_size number_after words word_size begins lines_from step
  arrow = record { reads = λ place. (place + 1 + 1 + 1 + 1, refl) }

  not_due : Goes (due line) (0x6E ∷ 0x6F ∷ 0x74 ∷ 0x20 ∷ rest) (denied line) rest
  unfolding tokens_from is_blank token_size number_after words word_size begins lines_from step
  not_due = record { reads = λ place. (place + 1 + 1 + 1 + 1, refl) }

  minus_due : Goes (due line) (0x2D ∷ rest) (negated_in line) rest
  unfolding tokens_from is_blank token_size number_after words word_size begins lines_from step
  minus_due = record { reads = λ place. (place + 1, refl) }

  minus_denied : Goes (denied line) (0x2D ∷ rest) (denied_negated line) rest
  unfolding tokens_from is_blank token_size number_after words word_size begins lines_from step
  minus_denied = record { reads = λ place. (place + 1, refl) }

  module _ (stop : digit_of rest ≡ 10) (a : ℕ) (h : a ≤ 255) where
    atom_due : Goes (due line) (atom_text a rest) (said (also line (literal (positive a)))) rest
    unfolding lines_from step
    atom_due = record { reads = λ place. let r = atom_printed place rest stop a h in (r.0, rw r.1) }

    atom_denied : Goes (denied line) (atom_text a rest) (said (also line (default_negation (positive a)))) rest
    unfolding lines_from step
    atom_denied = record { reads = λ place. let r = atom_printed place rest stop a h in (r.0, rw r.1) }

    atom_negated : Goes (negated_in line) (atom_text a rest) (said (also line (literal (negative a)))) rest
    unfolding lines_from step
    atom_negated = record { reads = λ place. let r = atom_printed place rest stop a h in (r.0, rw r.1) }

    atom_denied_negated : Goes (denied_negated line) (atom_text a rest) (said (also line (default_negation (negative a)))) rest
    unfolding lines_from step
    atom_denied_negated = record { reads = λ place. let r = atom_printed place rest stop a h in (r.0, rw r.1) }

literal_printed : (line : Line) (rest : List ℕ) (l : ℕ) → l < 1024 → digit_of rest ≡ 10 → Goes (due line) (literal_text l rest) (said (also line l)) rest
unfolding literal_text objective_text
literal_printed line rest l h stop = elim (ℕ_discrete (l % 2) 1) [
  | yes p ↦ elim (ℕ_discrete (l / 2 % 2) 1) [
    | yes q ↦ let is : default_negation (negative (l / 2 / 2)) ≡ l = omega arith in
        rw (eq-eqb (l % 2) 1 p, eq-eqb (l / 2 % 2) 1 q)
        (then (not_due line (0x2D ∷ atom_text (l / 2 / 2) rest)) (then (minus_denied line (atom_text (l / 2 / 2) rest))
        (rw is at (atom_denied_negated line rest stop (l / 2 / 2) (omega arith)))))
    | no q ↦ let is : default_negation (positive (l / 2 / 2)) ≡ l = omega arith in
        rw (eq-eqb (l % 2) 1 p, ne_eqb (l / 2 % 2) 1 q)
        (then (not_due line (atom_text (l / 2 / 2) rest)) (rw is at (atom_denied line rest stop (l / 2 / 2) (omega arith))))
  ]
  | no p ↦ elim (ℕ_discrete (l / 2 % 2) 1) [
    | yes q ↦ let is : literal (negative (l / 2 / 2)) ≡ l = omega arith in
        rw (ne_eqb (l % 2) 1 p, eq-eqb (l / 2 % 2) 1 q)
        (then (minus_due line (atom_text (l / 2 / 2) rest)) (rw is at (atom_negated line rest stop (l / 2 / 2) (omega arith))))
    | no q ↦ let is : literal (positive (l / 2 / 2)) ≡ l = omega arith in
        rw (ne_eqb (l % 2) 1 p, ne_eqb (l / 2 % 2) 1 q) (rw is at (atom_due line rest stop (l / 2 / 2) (omega arith)))
  ]
]

-- ---- bodies

pub also_all : Line → List ℕ → Line
also_all line [] = line
also_all line (l ∷ more) = also_all (also line l) more

all_rule : (start head : ℕ) (before ls : List ℕ) → also_all (rule start head before) ls ≡ rule start head (before ++ ls)
unfolding also_all
all_rule start head before [] = rw append-nil
all_rule start head before (l ∷ more) = all_rule start head (before ++ (l ∷ [])) more ∙ rw append_assoc

all_integrity : (start : ℕ) (before ls : List ℕ) → also_all (integrity start before) ls ≡ integrity start (before ++ ls)
unfolding also_all
all_integrity start before [] = rw append-nil
all_integrity start before (l ∷ more) = all_integrity start (before ++ (l ∷ [])) more ∙ rw append_assoc

later_stops : (ls rest : List ℕ) → digit_of rest ≡ 10 → digit_of (later_text ls rest) ≡ 10
unfolding later_text digit_of is_digit
later_stops [] rest h = h
later_stops (l ∷ more) rest h = refl

later_printed : (line : Line) (ls rest : List ℕ) → All (◌< 1024) ls → digit_of rest ≡ 10 → Goes (said line) (later_text ls rest) (said (also_all line ls)) rest
unfolding later_text also_all
later_printed line [] rest none stop = record { reads = λ place. (place, refl) }
later_printed line (l ∷ more) rest (each h hs) stop =
    then (comma line (literal_text l (later_text more rest)))
    (then (literal_printed line (later_text more rest) l h (later_stops more rest stop))
    (later_printed (also line l) more rest hs stop))

-- A line that ends here, before the rest.
record Ends (s : State) (bytes : List ℕ) (line : Line) (rest : List ℕ) : Type 0 where
  reads : (place : ℕ) → (after : ℕ)
      × (lines_from s (tokens_from place 0 bytes) ≡ and_then (lines_from fresh (tokens_from after 0 rest)) (λ lines. accepted (line ∷ lines)))

then_ends : {s t : State} {bytes mid rest : List ℕ} {line : Line} → Goes s bytes t mid → Ends t mid line rest → Ends s bytes line rest
then_ends g h = record { reads = λ place. let a = g.reads place in let b = h.reads a.0 in (b.0, a.1 ∙ b.1) }

module _ (line : Line) (rest : List ℕ) where
  stop_headed : Ends (headed line) (0x2E ∷ 0x0A ∷ rest) line rest
  unfolding tokens_from is_blank token_size number_after words word_size begins lines_from step
  stop_headed = record { reads = λ place. (place + 1 + 1, refl) }

  stop_said : Ends (said line) (0x2E ∷ 0x0A ∷ rest) line rest
  unfolding tokens_from is_blank token_size number_after words word_size begins lines_from step
  stop_said = record { reads = λ place. (place + 1 + 1, refl) }

  stop_declared : Ends (declared line) (0x2E ∷ 0x0A ∷ rest) line rest
  unfolding tokens_from is_blank token_size number_after words word_size begins lines_from step
  stop_declared = record { reads = λ place. (place + 1 + 1, refl) }

body_printed : (line : Line) (body rest : List ℕ) → All (◌< 1024) body → Ends (headed line) (body_text body rest) (also_all line body) rest
unfolding body_text also_all digit_of is_digit
body_printed line [] rest none = stop_headed line rest
body_printed line (l ∷ more) rest (each h hs) =
    let stop : List ℕ = 0x2E ∷ 0x0A ∷ rest in
    then_ends (arrow line (literal_text l (later_text more stop)))
    (then_ends (literal_printed line (later_text more stop) l h (later_stops more stop refl))
    (then_ends (later_printed (also line l) more stop hs refl)
    (stop_said (also_all (also line l) more) rest)))

body_stops : (body rest : List ℕ) → digit_of (body_text body rest) ≡ 10
unfolding body_text digit_of is_digit
body_stops [] rest = refl
body_stops (l ∷ more) rest = refl

-- ---- lines

-- A line without its place.
unfoldable pub bare : Line → Line
bare (abducible start a) = abducible 0 a
bare (rule start head body) = rule 0 head body
bare (integrity start body) = integrity 0 body

-- A line whose atoms have a token.
pub data Printable : Line → Type 0 where
  abducible_fits : {start a : ℕ} → a ≤ 255 → Printable (abducible start a)
  rule_fits : {start head : ℕ} {body : List ℕ} → head < 512 → All (◌< 1024) body → Printable (rule start head body)
  integrity_fits : {start : ℕ} {body : List ℕ} → All (◌< 1024) body → Printable (integrity start body)

pub record Found (place : ℕ) (line : Line) (rest : List ℕ) : Type 0 where
  pub after : ℕ
  pub found : Line
  pub same : bare found ≡ bare line
  pub is : lines_from fresh (tokens_from place 0 (line_text line rest))
      ≡ and_then (lines_from fresh (tokens_from after 0 rest)) (λ lines. accepted (found ∷ lines))

minus_begun : (place : ℕ) (rest : List ℕ) → lines_from fresh (tokens_from place 0 (0x2D ∷ rest)) ≡ lines_from (negated place) (tokens_from (place + 1) 0 rest)
unfolding tokens_from is_blank token_size number_after words word_size begins lines_from step
minus_begun place rest = refl

module _ (place : ℕ) (rest : List ℕ) (stop : digit_of rest ≡ 10) (a : ℕ) (h : a ≤ 255) where
  atom_fresh : (after : ℕ)
      × (lines_from fresh (tokens_from place 0 (atom_text a rest)) ≡ lines_from (headed (rule place (positive a) [])) (tokens_from after 0 rest))
  unfolding lines_from step
  atom_fresh = let r = atom_printed place rest stop a h in (r.0, rw r.1)

  atom_minus : (start : ℕ) → (after : ℕ)
      × (lines_from (negated start) (tokens_from place 0 (atom_text a rest)) ≡ lines_from (headed (rule start (negative a) [])) (tokens_from after 0 rest))
  unfolding lines_from step
  atom_minus start = let r = atom_printed place rest stop a h in (r.0, rw r.1)

  atom_declaring : (start : ℕ) → (after : ℕ)
      × (lines_from (declaring start) (tokens_from place 0 (atom_text a rest)) ≡ lines_from (declared (abducible start a)) (tokens_from after 0 rest))
  unfolding lines_from step
  atom_declaring start = let r = atom_printed place rest stop a h in (r.0, rw r.1)

head_printed : (place head : ℕ) (rest : List ℕ) → head < 512 → digit_of rest ≡ 10
    → (after : ℕ) × (lines_from fresh (tokens_from place 0 (objective_text head rest)) ≡ lines_from (headed (rule place head [])) (tokens_from after 0 rest))
unfolding objective_text
head_printed place head rest h stop = elim (ℕ_discrete (head % 2) 1) [
  | yes p ↦
      let r = atom_minus (place + 1) rest stop (head / 2) (omega arith) place in
      let is : negative (head / 2) ≡ head = omega arith in
      rw (eq-eqb (head % 2) 1 p) (r.0, minus_begun place (atom_text (head / 2) rest) ∙ (rw is at r.1))
  | no p ↦
      let r = atom_fresh place rest stop (head / 2) (omega arith) in
      let is : positive (head / 2) ≡ head = omega arith in
      rw (ne_eqb (head % 2) 1 p) (r.0, rw is at r.1)
]

abducible_begun : (place : ℕ) (rest : List ℕ)
    → lines_from fresh (tokens_from place 0 (0x61 ∷ 0x62 ∷ 0x64 ∷ 0x75 ∷ 0x63 ∷ 0x69 ∷ 0x62 ∷ 0x6C ∷ 0x65 ∷ 0x20 ∷ rest))
    ≡ lines_from (declaring place) (tokens_from (place + 1 + 1 + 1 + 1 + 1 + 1 + 1 + 1 + 1 + 1) 0 rest)
unfolding tokens_from is_blank token_size number_after words word_size begins lines_from step
abducible_begun place rest = refl

false_begun : (place : ℕ) (rest : List ℕ)
    → lines_from fresh (tokens_from place 0 (0x66 ∷ 0x61 ∷ 0x6C ∷ 0x73 ∷ 0x65 ∷ rest))
    ≡ lines_from (headed (integrity place [])) (tokens_from (place + 1 + 1 + 1 + 1 + 1) 0 rest)
unfolding tokens_from is_blank token_size number_after words word_size begins lines_from step
false_begun place rest = refl

line_printed : (place : ℕ) (line : Line) (rest : List ℕ) → Printable line → Found place line rest
unfolding line_text bare
line_printed place (abducible start a) rest (abducible_fits h) =
    let stop : List ℕ = 0x2E ∷ 0x0A ∷ rest in
    let begun = abducible_begun place (atom_text a stop) in
    let r = atom_declaring (place + 1 + 1 + 1 + 1 + 1 + 1 + 1 + 1 + 1 + 1) stop (unfold digit_of is_digit in refl) a h place in
    let e = (stop_declared (abducible place a) rest).reads r.0 in
    record { after = e.0; found = abducible place a; same = refl; is = begun ∙ r.1 ∙ e.1 }
line_printed place (rule start head body) rest (rule_fits h b) =
    let r = head_printed place head (body_text body rest) h (body_stops body rest) in
    let e = (body_printed (rule place head []) body rest b).reads r.0 in
    let is = all_rule place head [] body in
    record { after = e.0; found = rule place head body; same = refl; is = r.1 ∙ (rw is at e.1) }
line_printed place (integrity start body) rest (integrity_fits b) =
    let e = (body_printed (integrity place []) body rest b).reads (place + 1 + 1 + 1 + 1 + 1) in
    let is = all_integrity place [] body in
    record { after = e.0; found = integrity place body; same = refl; is = false_begun place (body_text body rest) ∙ (rw is at e.1) }

pub record AllFound (place : ℕ) (lines : List Line) : Type 0 where
  pub found : List Line
  pub same : map bare found ≡ map bare lines
  pub is : lines_from fresh (tokens_from place 0 (lines_text lines)) ≡ accepted found

-- What is printed is read as the lines printed, but for their places.
pub lines_printed : (place : ℕ) (lines : List Line) → All Printable lines → AllFound place lines
unfolding lines_text
lines_printed place [] none = record { found = []; same = refl; is = unfold tokens_from lines_from in refl }
lines_printed place (line ∷ more) (each h hs) =
    let one = line_printed place line (lines_text more) h in
    let ih = lines_printed one.after more hs in
    let s = one.same in
    let t = ih.same in
    record { found = one.found ∷ ih.found; same = cc; is = one.is ∙ rw ih.is }
