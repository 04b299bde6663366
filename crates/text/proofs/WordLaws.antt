-- The tokens that are words: each is told by its first character.
-- Assumes nothing.
use mathlib.Core.Path.{◌≡◌, refl, ap, ◌∙◌}
use mathlib.Core.Bool.{Bool, true, false, cond}
use mathlib.Core.List.{List, [], ◌∷◌}
use Prim.Native.Nat.{ℕ, ◌+◌, ◌<◌}
use native.Mathlib.Omega.{arith}
use borrow.Author.Tests.{ne_eqb}
use lib.Dec.{eqb}
use lib.ListN.{length, get_or, drop}
use Rattle.std.proofs.Common.{Option, Some, None}
use Rattle.std.specs.List.{starts_with}
use Rattle.std.proofs.lemmas.Bool.Decides.{nat_tests}
use Rattle.decimals.specs.Text.{ascii}
use Rattle.text.specs.declared.token.Token.{Token}
use Rattle.text.specs.declared.token.Token.TheVariants as token
use Rattle.text.specs.Tokens.{begins, words, word_size, token_size, number_after, token_here, Stray}
use Rattle.text.specs.Told.{kind_of, number_of, here_told}
use Rattle.text.proofs.TokenLaws.{here}

-- The bytes begin with a word as a slice starts with it.
eqb_swapped : (a b : ℕ) → eqb a b ≡ eqb b a
eqb_swapped a b = grind (arith, nat_tests)

pub begins_is : (word bytes : List ℕ) → starts_with eqb bytes word ≡ begins word bytes
unfolding begins
begins_is [] bytes = refl
begins_is (w ∷ word) [] = refl
begins_is (w ∷ word) (b ∷ more) = rw (eqb_swapped w b, begins_is word more)

-- A token and its word.
pub record IsWord (t : Token) (word : List ℕ) : Type 0 where
  pub number : number_of t ≡ 0
  pub letter : kind_of t ≡ 0x70 → ⊥
  pub some : length word ≡ 0 → ⊥
  pub sized : (more : List ℕ) → word_size words (kind_of t ∷ more) ≡ cond (begins word (kind_of t ∷ more)) (length word) 0

pub minus : IsWord token.Minus (ascii "-")
unfolding words word_size begins
minus = record { number = refl; letter = λ q. omega arith; some = λ q. omega arith; sized = λ more. refl }

pub not_word : IsWord token.Not (ascii "not")
unfolding words word_size begins
not_word = record { number = refl; letter = λ q. omega arith; some = λ q. omega arith; sized = λ more. refl }

pub arrow : IsWord token.Arrow (ascii ":-")
unfolding words word_size begins
arrow = record { number = refl; letter = λ q. omega arith; some = λ q. omega arith; sized = λ more. refl }

pub comma : IsWord token.Comma (ascii ",")
unfolding words word_size begins
comma = record { number = refl; letter = λ q. omega arith; some = λ q. omega arith; sized = λ more. refl }

pub stop : IsWord token.Stop (ascii ".")
unfolding words word_size begins
stop = record { number = refl; letter = λ q. omega arith; some = λ q. omega arith; sized = λ more. refl }

pub abducible : IsWord token.Abducible (ascii "abducible")
unfolding words word_size begins
abducible = record { number = refl; letter = λ q. omega arith; some = λ q. omega arith; sized = λ more. refl }

pub false_word : IsWord token.False (ascii "false")
unfolding words word_size begins
false_word = record { number = refl; letter = λ q. omega arith; some = λ q. omega arith; sized = λ more. refl }

-- Bytes that begin as it does: it stands there, or no token does.
told : {t : Token} {word : List ℕ} → IsWord t word → (at : ℕ) (more : List ℕ)
    → here_told at (cond (begins word (kind_of t ∷ more)) (Some (t, at + length word)) None) ≡ token_here at (kind_of t ∷ more)
unfolding token_here token_size number_after
told {t} {word} w at more = go (begins word (kind_of t ∷ more)) (w.sized more)
  where
    go : (b : Bool) → word_size words (kind_of t ∷ more) ≡ cond b (length word) 0
        → here_told at (cond b (Some (t, at + length word)) None) ≡ token_here at (kind_of t ∷ more)
    go true s = rw (ne_eqb (kind_of t) 0x70 w.letter, s, ne_eqb (length word) 0 w.some, w.number)
    go false s = rw (ne_eqb (kind_of t) 0x70 w.letter, s)

module _ (text : List ℕ) (at : ℕ) (within : at < length text) where
  pub word_told : {t : Token} {word : List ℕ} → IsWord t word → get_or text at 0 ≡ kind_of t → {found : Option (Token × ℕ)}
      → found ≡ cond (begins word (drop at text)) (Some (t, at + length word)) None → here_told at found ≡ token_here at (drop at text)
  word_told {t} {word} w first e =
      let bytes : drop at text ≡ kind_of t ∷ drop (at + 1) text = rw first at (here text at within) in
      ap (here_told at) e ∙ (rw bytes (told w at (drop (at + 1) text)))

  -- Another character starts no token.
  pub none_told : let first = get_or text at 0 in (first ≡ 0x70 → ⊥) → (first ≡ 0x2D → ⊥) → (first ≡ 0x6E → ⊥) → (first ≡ 0x3A → ⊥)
      → (first ≡ 0x2C → ⊥) → (first ≡ 0x2E → ⊥) → (first ≡ 0x61 → ⊥) → (first ≡ 0x66 → ⊥) → Stray at ≡ token_here at (drop at text)
  unfolding token_here token_size words word_size begins
  none_told p m n w k s a f =
      let first = get_or text at 0 in
      rw (
        here text at within,
        ne_eqb first 0x70 p,
        ne_eqb first 0x2D m,
        ne_eqb first 0x6E n,
        ne_eqb first 0x3A w,
        ne_eqb first 0x2C k,
        ne_eqb first 0x2E s,
        ne_eqb first 0x61 a,
        ne_eqb first 0x66 f,
      )
