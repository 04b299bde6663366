-- The definitions of tokens as the code meets them: one law for each answer, over plain variables.
-- Assumes nothing.
use mathlib.Core.Path.{◌≡◌, refl, sym, ◌∙◌}
use mathlib.Core.Bool.{Bool, true, false, not, cond}
use mathlib.Core.List.{List, [], ◌∷◌}
use Prim.Native.Nat.{ℕ, suc, ◌+◌, ◌*◌, ◌-◌, ◌≤◌, ◌<◌}
use native.Mathlib.Numerals.{add-one}
use native.Mathlib.Omega.{arith}
use borrow.Author.Tests.{eq-eqb, ne_eqb, le-leb, lt-leb, leb-true, ltb-true}
use lib.Dec.{eqb, leb, ltb}
use lib.ListN.{length, get_or, drop, drop_of_length-le}
use lib.Seq.{drop-cons, drop-drop, get_or-drop}
use Rattle.std.proofs.Common.{Some, None}
use Rattle.std.specs.List.{position_or_len}
use Rattle.std.proofs.lemmas.Bool.Decides.{nat_tests}
use Rattle.papers.proofs.Checks.{both}
use Rattle.text.specs.Tokens.{is_blank, is_digit, digits, digit_of, value, atom_allowed, begins, word_size, atom_size, token_size}
use Rattle.text.specs.Tokens.{number_after, Scanned, Token, Stray, End, token_here, next_token}

-- What stands at a place, and after it.
pub here : (text : List ℕ) (at : ℕ) → at < length text → drop at text ≡ get_or text at 0 ∷ drop (at + 1) text
here text at h = rw add-one (drop-cons text at 0 h)

-- ---- digits

module _ (text : List ℕ) (at : ℕ) where
  pub digit_past : length text ≤ at → digit_of (drop at text) ≡ 10
  unfolding digit_of
  digit_past h = rw (drop_of_length-le text h)

  module _ (within : at < length text) {b : ℕ} (is : b ≡ get_or text at 0) where
    pub digit_none : is_digit b ≡ false → digit_of (drop at text) ≡ 10
    unfolding digit_of
    digit_none h = rw (here text at within, ← is, h)

    pub digit_found : is_digit b ≡ true → digit_of (drop at text) ≡ b - 0x30
    unfolding digit_of
    digit_found h = rw (here text at within, ← is, h)

-- The digits that bytes begin with, by the first of them.
pub digits_none : (l : List ℕ) → digit_of l ≡ 10 → digits l ≡ []
unfolding digits digit_of is_digit
digits_none [] e = refl
digits_none (b ∷ more) e = go (is_digit b) refl e
  where
    go : (t : Bool) → is_digit b ≡ t → cond t (b - 0x30) 10 ≡ 10 → cond t ((b - 0x30) ∷ digits more) [] ≡ []
    go true q f = absurd (let d = both (leb 0x30 b) (leb b 0x39) q in let x = leb-true b 0x39 d.1 in omega arith)
    go false q f = refl

digits_one : (l : List ℕ) → (digit_of l ≡ 10 → ⊥) → digits l ≡ digit_of l ∷ digits (drop 1 l)
unfolding digits digit_of is_digit
digits_one [] h = absurd (h refl)
digits_one (b ∷ more) h = go (is_digit b) h
  where
    go : (t : Bool) → (cond t (b - 0x30) 10 ≡ 10 → ⊥) → cond t ((b - 0x30) ∷ digits more) [] ≡ cond t (b - 0x30) 10 ∷ digits more
    go true k = refl
    go false k = absurd (k refl)

module _ (text : List ℕ) (at : ℕ) where
  digits_end : 10 ≡ digit_of (drop at text) → digits (drop at text) ≡ []
  digits_end e = digits_none (drop at text) (sym e)

  digits_more : {d : ℕ} → d ≡ digit_of (drop at text) → d ≤ 9 → digits (drop at text) ≡ d ∷ digits (drop (at + 1) text)
  digits_more e small = rw (digits_one (drop at text) (λ q. omega (arith, e, q)), ← e, drop-drop 1 at text)

value_grows : (n : ℕ) (ds : List ℕ) → n ≤ value n ds
unfolding value
value_grows n [] = omega arith
value_grows n (d ∷ more) = let ih = value_grows (10 * n + d) more in omega arith

-- ---- atoms

module _ (text : List ℕ) (at : ℕ) (p : get_or text at 0 ≡ 112) where
  first : get_or (drop at text) 0 0 ≡ 112
  first = get_or-drop at text 0 0 ∙ (let z : at + 0 ≡ at = omega arith in rw z p)

  atom_stray : {ds : List ℕ} → digits (drop (at + 1) text) ≡ ds → atom_allowed ds ≡ false → Stray at ≡ token_here at (drop at text)
  unfolding token_here token_size atom_size
  atom_stray e no-atom = rw (eq-eqb (get_or (drop at text) 0 0) 112 first, drop-drop 1 at text, e, no-atom)

  atom_token : {ds : List ℕ} {v end : ℕ} → digits (drop (at + 1) text) ≡ ds → atom_allowed ds ≡ true → v ≡ value 0 ds → end ≡ at + (1 + length ds)
      → Token 112 v at end ≡ token_here at (drop at text)
  unfolding token_here token_size atom_size number_after
  atom_token {ds} e atom q r =
      rw (first, drop-drop 1 at text, e, atom, q, r, ne_eqb (1 + length ds) 0 (omega arith))

  pub no_digit : 10 ≡ digit_of (drop (at + 1) text) → Stray at ≡ token_here at (drop at text)
  unfolding atom_allowed
  no_digit none = atom_stray (digits_end text (at + 1) none) refl

  module _ {d1 : ℕ} (e1 : d1 ≡ digit_of (drop (at + 1) text)) (small1 : d1 ≤ 9) where
    one_more : digits (drop (at + 1) text) ≡ d1 ∷ digits (drop (at + 2) text)
    one_more =
        let z : at + 1 + 1 ≡ at + 2 = omega arith in
        rw z at (digits_more text (at + 1) e1 small1)

    pub one_digit : 10 ≡ digit_of (drop (at + 2) text) → Token 112 d1 at (at + 2) ≡ token_here at (drop at text)
    unfolding atom_allowed value
    one_digit none = atom_token {ds = d1 ∷ []} (rw (digits_end text (at + 2) none) at one_more) refl (omega arith) (omega arith)

    module _ {d2 : ℕ} (e2 : d2 ≡ digit_of (drop (at + 2) text)) (small2 : d2 ≤ 9) where
      two_more : digits (drop (at + 1) text) ≡ d1 ∷ d2 ∷ digits (drop (at + 3) text)
      two_more =
          let z : at + 2 + 1 ≡ at + 3 = omega arith in
          rw z at (rw (digits_more text (at + 2) e2 small2) at one_more)

      pub zero_first : d1 ≡ 0 → Stray at ≡ token_here at (drop at text)
      unfolding atom_allowed
      zero_first h = atom_stray two_more (rw (eq-eqb d1 0 h))

      module _ (pos : d1 ≡ 0 → ⊥) where
        pub two_digits : 10 ≡ digit_of (drop (at + 3) text) → Token 112 (10 * d1 + d2) at (at + 3) ≡ token_here at (drop at text)
        unfolding atom_allowed value
        two_digits none =
            atom_token {ds = d1 ∷ d2 ∷ []} (rw (digits_end text (at + 3) none) at two_more)
            (rw (ne_eqb d1 0 pos, le-leb (10 * (10 * 0 + d1) + d2) 255 (omega arith))) (omega arith) (omega arith)

        module _ {d3 : ℕ} (e3 : d3 ≡ digit_of (drop (at + 3) text)) (small3 : d3 ≤ 9) where
          three_more : digits (drop (at + 1) text) ≡ d1 ∷ d2 ∷ d3 ∷ digits (drop (at + 4) text)
          three_more =
              let z : at + 3 + 1 ≡ at + 4 = omega arith in
              rw z at (rw (digits_more text (at + 3) e3 small3) at two_more)

          pub four_digits : {d4 : ℕ} → d4 ≡ digit_of (drop (at + 4) text) → d4 ≤ 9 → Stray at ≡ token_here at (drop at text)
          unfolding atom_allowed value
          four_digits {d4} e4 small4 =
              let rest = digits (drop (at + 4 + 1) text) in
              let large = value_grows (10 * (10 * (10 * (10 * 0 + d1) + d2) + d3) + d4) rest in
              atom_stray {ds = d1 ∷ d2 ∷ d3 ∷ d4 ∷ rest} (rw (digits_more text (at + 4) e4 small4) at three_more)
              (rw (ne_eqb d1 0 pos, lt-leb (value 0 (d1 ∷ d2 ∷ d3 ∷ d4 ∷ rest)) 255 (omega arith)))

          module _ (none : 10 ≡ digit_of (drop (at + 4) text)) {v : ℕ} (sum : v ≡ 100 * d1 + 10 * d2 + d3) where
            three : digits (drop (at + 1) text) ≡ d1 ∷ d2 ∷ d3 ∷ []
            three = rw (digits_end text (at + 4) none) at three_more

            pub too_large : 255 < v → Stray at ≡ token_here at (drop at text)
            unfolding atom_allowed value
            too_large h = atom_stray three (rw (ne_eqb d1 0 pos, lt-leb (10 * (10 * (10 * 0 + d1) + d2) + d3) 255 (omega arith)))

            pub three_digits : v ≤ 255 → Token 112 v at (at + 4) ≡ token_here at (drop at text)
            unfolding atom_allowed value
            three_digits h =
                atom_token {ds = d1 ∷ d2 ∷ d3 ∷ []} three
                (rw (ne_eqb d1 0 pos, le-leb (10 * (10 * (10 * 0 + d1) + d2) + d3) 255 (omega arith))) (omega arith) (omega arith)

-- ---- words

begins_size : (word bytes : List ℕ) → begins word bytes ≡ true → length word ≤ length bytes
unfolding begins
begins_size [] bytes e = omega arith
begins_size (w ∷ word) [] e = absurd (let z : ◌≡◌ {A = ℕ} 0 1 = cc in omega arith)
begins_size (w ∷ word) (b ∷ more) e =
    let h = both (eqb b w) (begins word more) e in
    let ih = begins_size word more h.1 in omega arith

pub words_size : (ws : List (List ℕ)) (bytes : List ℕ) → word_size ws bytes ≤ length bytes
unfolding word_size
words_size [] bytes = omega arith
words_size (word ∷ more) bytes = go (begins word bytes) refl (words_size more bytes)
  where
    go : (t : Bool) → begins word bytes ≡ t → word_size more bytes ≤ length bytes → cond t (length word) (word_size more bytes) ≤ length bytes
    go true e h = begins_size word bytes e
    go false e h = h

-- ---- the next token

-- How many blanks stand before it, and what stands after so many.
abbrev pub blanks : List ℕ → ℕ
blanks bytes = position_or_len (λ b. not (is_blank b)) bytes

abbrev ahead : ℕ → ℕ → List ℕ → Scanned
ahead place n bytes = cond (ltb n (length bytes)) (token_here (place + n) (drop n bytes)) (End (place + length bytes))

next_at : (bytes : List ℕ) (place : ℕ) → next_token place bytes ≡ ahead place (blanks bytes) bytes
unfolding next_token
next_at [] place = let z : place + 0 ≡ place = omega arith in rw z
next_at (b ∷ more) place = go (is_blank b) (next_at more (place + 1))
  where
    go : (t : Bool) → next_token (place + 1) more ≡ ahead (place + 1) (blanks more) more
        → cond t (next_token (place + 1) more) (token_here place (b ∷ more)) ≡ ahead place (cond (not (not t)) (1 + blanks more) 0) (b ∷ more)
    go true h =
        let n = blanks more in
        let z : place + 1 + n ≡ place + (1 + n) = omega arith in
        let l : place + 1 + length more ≡ place + length (b ∷ more) = omega arith in
        let t : ltb n (length more) ≡ ltb (1 + n) (length (b ∷ more)) = grind (arith, nat_tests) in
        let one : 1 + n ≡ suc n = omega arith in
        let d : drop n more ≡ drop (1 + n) (b ∷ more) = rw one in
        h ∙ rw (z, l, t, d) refl
    go false h =
        let z : place + 0 ≡ place = omega arith in
        let t : ltb 0 (length (b ∷ more)) ≡ true = grind (arith, nat_tests) in
        rw (z, t)

module _ (bytes : List ℕ) (place : ℕ) where
  pub next_some : {n : ℕ} → Some n ≡ cond (ltb (blanks bytes) (length bytes)) (Some (blanks bytes)) None
      → (next_token place bytes ≡ token_here (place + n) (drop n bytes)) × (n < length bytes)
  next_some {n} e = go (ltb (blanks bytes) (length bytes)) refl e
    where
      go : (t : Bool) → ltb (blanks bytes) (length bytes) ≡ t → Some n ≡ cond t (Some (blanks bytes)) None
          → (next_token place bytes ≡ token_here (place + n) (drop n bytes)) × (n < length bytes)
      go true q f =
          let same : n ≡ blanks bytes = cc in
          (next_at bytes place ∙ rw (q, same), omega (arith, ltb-true (blanks bytes) (length bytes) q))
      go false q f = absurd (cc)

  pub next_none : None ≡ cond (ltb (blanks bytes) (length bytes)) (Some (blanks bytes)) None → next_token place bytes ≡ End (place + length bytes)
  next_none e = go (ltb (blanks bytes) (length bytes)) refl e
    where
      go : (t : Bool) → ltb (blanks bytes) (length bytes) ≡ t → None ≡ cond t (Some (blanks bytes)) None
          → next_token place bytes ≡ End (place + length bytes)
      go true q f = absurd (cc)
      go false q f = next_at bytes place ∙ rw q
