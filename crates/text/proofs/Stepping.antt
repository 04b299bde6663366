-- The tokens of a text, one by one: the definition by whole texts is the next token again and again.
-- Assumes nothing.
use mathlib.Core.Path.{◌≡◌, refl, ap}
use mathlib.Core.Bool.{Bool, true, false, not, cond}
use mathlib.Core.List.{List, [], ◌∷◌}
use Prim.Native.Nat.{ℕ, zero, suc, ◌+◌, ◌-◌, ◌≤◌, ◌<◌}
use native.Mathlib.Omega.{arith}
use borrow.Author.Tests.{eq-eqb, ne_eqb, leb-true}
use lib.Dec.{eqb, leb}
use lib.ListN.{length, drop}
use lib.Seq.{drop-drop}
use Rattle.papers.proofs.Checks.{both}
use Rattle.papers.proofs.Lists.{past_place}
use Rattle.text.specs.Tokens.{Scanned}
use Rattle.text.specs.Tokens.{Token, Stray, End}
use Rattle.text.specs.Tokens.{is_blank, is_digit, digits, value, atom_allowed, atom_size, words, word_size, token_size, number_after, token_here, next_token}
use Rattle.text.specs.Tokens.{Tokens, token, stray, end, token_then, tokens_from}
use Rattle.text.proofs.TokenLaws.{words_size}

-- A token is no longer than the text.
digits_size : (l : List ℕ) → length (digits l) ≤ length l
unfolding digits
digits_size [] = omega arith
digits_size (b ∷ more) = go (is_digit b) (digits_size more)
  where
    go : (t : Bool) → length (digits more) ≤ length more → length (cond t ((b - 0x30) ∷ digits more) []) ≤ suc (length more)
    go true h = omega arith
    go false h = omega arith

atom_size_lem : (ds : List ℕ) → atom_size ds ≤ suc (length ds)
unfolding atom_size
atom_size_lem ds = go (atom_allowed ds)
  where
    go : (t : Bool) → cond t (1 + length ds) 0 ≤ suc (length ds)
    go true = omega arith
    go false = omega arith

pub token_size_lem : (b : ℕ) (more : List ℕ) → token_size (b ∷ more) ≤ suc (length more)
unfolding token_size
token_size_lem b more = go (eqb b 0x70)
  where
    go : (t : Bool) → cond t (atom_size (digits more)) (word_size words (b ∷ more)) ≤ suc (length more)
    go true = let x = atom_size_lem (digits more) in let y = digits_size more in omega arith
    go false = let x = words_size words (b ∷ more) in omega arith

taken_all : (place k : ℕ) (bytes : List ℕ) → k ≤ length bytes → tokens_from place k bytes ≡ tokens_from (place + k) 0 (drop k bytes)
unfolding tokens_from
taken_all place zero bytes h = let z : place + 0 ≡ place = omega arith in rw z
taken_all place (suc k) [] h = absurd (omega arith)
taken_all place (suc k) (b ∷ more) h =
    let z : place + 1 + k ≡ place + suc k = omega arith in
    let ih = taken_all (place + 1) k more (omega arith) in rw z at ih

-- The tokens from the one that was found on.
abbrev pub found : List ℕ → Scanned → Tokens
found text (Token kind value start after) = token start kind value (tokens_from after 0 (drop after text))
found text (Stray place) = stray place
found text (End place) = end place

module _ (text : List ℕ) where
  here_found : (b : ℕ) (more : List ℕ) (at : ℕ) → drop at text ≡ b ∷ more → (size : ℕ) → token_size (b ∷ more) ≡ size
      → token_then at (b ∷ more) (λ taken. tokens_from (at + 1) taken more) size ≡ found text (token_here at (b ∷ more))
  unfolding token_here
  here_found b more at e zero s = rw (eq-eqb (token_size (b ∷ more)) 0 s)
  here_found b more at e (suc k) s =
      let fits = token_size_lem b more in
      let rest = taken_all (at + 1) k more (omega arith) in
      let z : at + 1 + k ≡ at + suc k = omega arith in
      let past : drop (at + suc k) text ≡ drop k more = rw (← z, ← drop-drop k (at + 1) text, past_place text at e) in
      rw (ne_eqb (token_size (b ∷ more)) 0 (omega arith), s, past) (ap (token at b (number_after (b ∷ more))) (rw z at rest))

  steps : (bytes : List ℕ) (at : ℕ) → drop at text ≡ bytes → tokens_from at 0 bytes ≡ found text (next_token at bytes)
  unfolding tokens_from next_token
  steps [] at e = refl
  steps (b ∷ more) at e = go (is_blank b) (steps more (at + 1) (past_place text at e)) (here_found b more at e (token_size (b ∷ more)) refl)
    where
      go : (t : Bool) → tokens_from (at + 1) 0 more ≡ found text (next_token (at + 1) more)
          → token_then at (b ∷ more) (λ taken. tokens_from (at + 1) taken more) (token_size (b ∷ more)) ≡ found text (token_here at (b ∷ more))
          → cond t (tokens_from (at + 1) 0 more) (token_then at (b ∷ more) (λ taken. tokens_from (at + 1) taken more) (token_size (b ∷ more)))
          ≡ found text (cond t (next_token (at + 1) more) (token_here at (b ∷ more)))
      go true x y = x
      go false x y = y

  -- The tokens from a place on are those from the next on.
  pub tokens_step : (at : ℕ) → tokens_from at 0 (drop at text) ≡ found text (next_token at (drop at text))
  tokens_step at = steps (drop at text) at refl

-- ---- where a token lies, and its number

pub record Bounds (at : ℕ) (bytes : List ℕ) (value start after : ℕ) : Type 0 where
  pub from : at ≤ start
  pub some : start < after
  pub within : after ≤ at + length bytes
  pub small : value ≤ 255

-- A digit is at most 9; an allowed atom's number is at most 255.
one_small : (l : List ℕ) {d : ℕ} {more : List ℕ} → digits l ≡ d ∷ more → d ≤ 9
unfolding digits is_digit
one_small [] e = absurd (let z : ◌≡◌ {A = ℕ} 0 1 = cc in omega arith)
one_small (b ∷ rest) {d} {more} e = go (is_digit b) refl e
  where
    go : (t : Bool) → is_digit b ≡ t → cond t ((b - 0x30) ∷ digits rest) [] ≡ d ∷ more → d ≤ 9
    go true q f =
        let x = leb-true b 0x39 (both (leb 0x30 b) (leb b 0x39) q).1 in
        let y : b - 0x30 ≡ d = cc in omega arith
    go false q f = absurd (let z : ◌≡◌ {A = ℕ} 0 1 = cc in omega arith)

allowed_small : (l ds : List ℕ) → digits l ≡ ds → atom_allowed ds ≡ true → value 0 ds ≤ 255
unfolding atom_allowed value
allowed_small l [] e h = omega arith
allowed_small l (d ∷ []) e h = let x = one_small l e in omega arith
allowed_small l (d ∷ f ∷ more) e h = leb-true (value 0 (d ∷ f ∷ more)) 255 (both (not (eqb d 0)) (leb (value 0 (d ∷ f ∷ more)) 255) h).1

pub number_small : (b : ℕ) (more : List ℕ) → (token_size (b ∷ more) ≡ 0 → ⊥) → number_after (b ∷ more) ≤ 255
unfolding token_size number_after atom_size
number_small b more h = go (eqb b 0x70) (atom_allowed (digits more)) refl h
  where
    go : (t u : Bool) → atom_allowed (digits more) ≡ u → (cond t (cond u (1 + length (digits more)) 0) (word_size words (b ∷ more)) ≡ 0 → ⊥)
        → cond t (value 0 (digits more)) 0 ≤ 255
    go true true e k = allowed_small more (digits more) refl e
    go true false e k = absurd (k refl)
    go false true e k = omega arith
    go false false e k = omega arith

here_bounds : (at b : ℕ) (more : List ℕ) {kind value start after : ℕ} → token_here at (b ∷ more) ≡ Token kind value start after
    → Bounds at (b ∷ more) value start after
unfolding token_here
here_bounds at b more {kind} {value} {start} {after} e = go (token_size (b ∷ more)) refl e
  where
    go : (size : ℕ) → token_size (b ∷ more) ≡ size
        → cond (eqb size 0) (Stray at) (Token b (number_after (b ∷ more)) at (at + size)) ≡ Token kind value start after
        → Bounds at (b ∷ more) value start after
    go zero s f = absurd (let z : ◌≡◌ {A = ℕ} 0 1 = cc in omega arith)
    go (suc k) s f =
        let g : Token b (number_after (b ∷ more)) at (at + suc k) ≡ Token kind value start after = rw (ne_eqb (suc k) 0 (omega arith)) at f in
        let x : at ≡ start = cc in
        let y : at + suc k ≡ after = cc in
        let v : number_after (b ∷ more) ≡ value = cc in
        let fits = token_size_lem b more in
        let small = number_small b more (λ q. omega arith) in
        record { from = omega arith; some = omega arith; within = omega arith; small = omega arith }

pub next_bounds : (bytes : List ℕ) (at : ℕ) {kind value start after : ℕ} → next_token at bytes ≡ Token kind value start after
    → Bounds at bytes value start after
unfolding next_token
next_bounds [] at e = absurd (let z : ◌≡◌ {A = ℕ} 0 1 = cc in omega arith)
next_bounds (b ∷ more) at {kind} {value} {start} {after} e = go (is_blank b) (λ f. next_bounds more (at + 1) f) e
  where
    go : (t : Bool) → (next_token (at + 1) more ≡ Token kind value start after → Bounds (at + 1) more value start after)
        → cond t (next_token (at + 1) more) (token_here at (b ∷ more)) ≡ Token kind value start after → Bounds at (b ∷ more) value start after
    go true ih f = let r = ih f in record { from = omega arith; some = r.some; within = omega arith; small = r.small }
    go false ih f = here_bounds at b more f
