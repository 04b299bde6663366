-- The numbers of a content, one by one, as a loop meets them; and one turn of each content test.
-- Assumes nothing.
use mathlib.Core.Path.{◌≡◌, refl, sym, ap, ◌∙◌}
use mathlib.Core.Bool.{Bool, true, false}
use mathlib.Core.List.{List, [], ◌∷◌, ◌++◌}
use Prim.Native.Nat.{ℕ, suc, ◌+◌, ◌*◌, ◌/◌, ◌-◌, ◌≤◌, ◌<◌}
use native.Mathlib.Omega.{arith}
use borrow.Author.Tests.{lt-ltb, le-ltb, le-leb, lt-leb, eq-eqb, ne_eqb}
use lib.ListN.{length, get_or, take, drop, length-drop}
use lib.Seq.{drop-cons, take_all}
use Rattle.papers.specs.Field.{number, number_in, numbers}
use Rattle.papers.specs.Content.{abducibles_fault, literal_allowed, literals_fault, is_among, rule_fault}

-- A part to the end.
pub to_end : (start : ℕ) (l : List ℕ) → take (length l - start) (drop start l) ≡ drop start l
to_end start l = take_all (length l - start) (drop start l) (omega (arith, length-drop start l))

pub few : (l : List ℕ) → length l < 2 → numbers l ≡ []
unfolding numbers
few [] h = refl
few (a ∷ []) h = refl
few (a ∷ b ∷ l) h = absurd (omega arith)

module _ (content : List ℕ) (i : ℕ) where
  -- Past the last there is none.
  pub no_number : length content / 2 ≤ i → numbers (drop (2 * i) content) ≡ []
  no_number h = few (drop (2 * i) content) (omega (arith, length-drop (2 * i) content))

  -- The i-th, and those after it.
  pub next_number : i < length content / 2
      → numbers (drop (2 * i) content) ≡ number (get_or content (2 * i) 0) (get_or content (2 * i + 1) 0) ∷ numbers (drop (2 * (i + 1)) content)
  unfolding numbers
  next_number h =
      let high = get_or content (2 * i) 0 in
      let low : suc (2 * i) ≡ 2 * i + 1 = omega arith in
      let rest : suc (2 * i + 1) ≡ 2 * (i + 1) = omega arith in
      ap numbers (drop-cons content (2 * i) 0 (omega arith) ∙ ap (λ (l : List ℕ). high ∷ l) (drop-cons content (suc (2 * i)) 0 (omega arith)))
      ∙ ap (λ (j : ℕ). number high (get_or content j 0) ∷ numbers (drop (suc j) content)) low
      ∙ ap (λ (j : ℕ). number high (get_or content (2 * i + 1) 0) ∷ numbers (drop j content)) rest

  -- The same, where the i-th was read as x.
  pub read_number : i < length content / 2 → {x : ℕ} → x ≡ number (get_or content (2 * i) 0) (get_or content (2 * i + 1) 0)
      → numbers (drop (2 * i) content) ≡ x ∷ numbers (drop (2 * (i + 1)) content)
  read_number h e = next_number h ∙ ap (λ (x : ℕ). x ∷ numbers (drop (2 * (i + 1)) content)) (sym e)

-- ---- the numbers of a content, pair by pair

-- The first two bytes of what is left are cut off, and are one number.
pub pair_read : (left pair more : List ℕ) → left ≡ pair ++ more → length pair ≡ 2 → {a : ℕ} → a ≡ number_in pair 0
    → numbers left ≡ a ∷ numbers more
unfolding numbers
pair_read left pair more cut two {a} is = rw (cut, is) (go pair two) where
  go : (p : List ℕ) → length p ≡ 2 → numbers (p ++ more) ≡ number_in p 0 ∷ numbers more
  go [] h = absurd (omega arith)
  go (a ∷ []) h = absurd (omega arith)
  go (a ∷ b ∷ []) h = refl
  go (a ∷ b ∷ c ∷ l) h = absurd (omega arith)

module _ (n : ℕ) (left : List ℕ) where
  module _ (ends : length left < 2) where
    pub literals_done : (in_body : Bool) → literals_fault in_body n (numbers left) ≡ 0
    unfolding literals_fault
    literals_done in_body = rw (few left ends)

    pub abducibles_done : (least : ℕ) → abducibles_fault n least (numbers left) ≡ 0
    unfolding abducibles_fault
    abducibles_done least = rw (few left ends)

    pub among_done : is_among (numbers left) n ≡ false
    unfolding is_among
    among_done = rw (few left ends)

  -- One turn: the number that was read is the first of those left.
  module _ (pair more : List ℕ) (cut : left ≡ pair ++ more) (two : length pair ≡ 2) {l : ℕ} (is : l ≡ number_in pair 0) where
    one : numbers left ≡ l ∷ numbers more
    one = pair_read left pair more cut two is

    pub literals_stop : (in_body : Bool) → literal_allowed in_body n l ≡ false → literals_fault in_body n (numbers left) ≡ 6
    unfolding literals_fault
    literals_stop in_body h = rw (one, h)

    pub literals_next :
        (in_body : Bool) → literal_allowed in_body n l ≡ true → literals_fault in_body n (numbers left) ≡ literals_fault in_body n (numbers more)
    unfolding literals_fault
    literals_next in_body h = rw (one, h)

    pub abducibles_unlisted : (least : ℕ) → n ≤ l → abducibles_fault n least (numbers left) ≡ 6
    unfolding abducibles_fault
    abducibles_unlisted least h = rw (one, le-ltb l n h)

    pub abducibles_disorder : (least : ℕ) → l < n → l < least → abducibles_fault n least (numbers left) ≡ 7
    unfolding abducibles_fault
    abducibles_disorder least h k = rw (one, lt-ltb l n h, lt-leb least l k)

    pub abducibles_next : (least : ℕ) → l < n → least ≤ l → abducibles_fault n least (numbers left) ≡ abducibles_fault n (l + 1) (numbers more)
    unfolding abducibles_fault
    abducibles_next least h k = rw (one, lt-ltb l n h, le-leb least l k)

    pub among_stop : l ≡ n → is_among (numbers left) n ≡ true
    unfolding is_among
    among_stop h = rw (one, eq-eqb l n h)

    pub among_next : (l ≡ n → ⊥) → is_among (numbers left) n ≡ is_among (numbers more) n
    unfolding is_among
    among_next h = rw (one, ne_eqb l n h)

-- A rule's content: its head is the first number, its body the others.
module _ (n : ℕ) (abducibles content : List ℕ) (whole : 1 < length content) {head : ℕ} (is : head ≡ number (get_or content 0 0) (get_or content 1 0)) where
  headed : numbers content ≡ head ∷ numbers (drop 2 content)
  headed = read_number content 0 (omega arith) is

  pub rule_unlisted : 2 * n ≤ head → rule_fault n abducibles (numbers content) ≡ 6
  unfolding rule_fault
  rule_unlisted h = rw (headed, le-ltb head (2 * n) h)

  pub rule_fixed : head < 2 * n → is_among abducibles (head / 2) ≡ true → rule_fault n abducibles (numbers content) ≡ 8
  unfolding rule_fault
  rule_fixed h a = rw (headed, lt-ltb head (2 * n) h, a)

  pub rule_body : head < 2 * n → is_among abducibles (head / 2) ≡ false
      → rule_fault n abducibles (numbers content) ≡ literals_fault true n (numbers (drop 2 content))
  unfolding rule_fault
  rule_body h a = rw (headed, lt-ltb head (2 * n) h, a)

-- The first of a content's numbers.
pub first_number : (content : List ℕ) → 1 < length content → {l : ℕ} → l ≡ number (get_or content 0 0) (get_or content 1 0) → get_or (numbers content) 0 0 ≡ l
first_number content whole is = rw (read_number content 0 (omega arith) is)

-- How many they are.
pub count_numbers : (content : List ℕ) → length (numbers content) ≡ length content / 2
unfolding numbers
count_numbers [] = refl
count_numbers (b ∷ []) = refl
count_numbers (high ∷ low ∷ rest) = let e = count_numbers rest in omega arith
