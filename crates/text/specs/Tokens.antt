-- The tokens of a text. A token is known by its first character: no two begin with the same.
use Rattle.std.specs.Prelude.{Bool, true, false, not, ◌&&◌, ◌||◌, cond, List, [], ◌∷◌, ℕ, zero, suc, ◌+◌, ◌*◌, ◌-◌, eqb, leb, length, get_or, drop}
use Rattle.decimals.specs.Text.{ascii}

-- What stands next in a text: a token by its first character, which tells its kind, its number, its place and the place after it; or the
-- place of a character that starts no permitted token; or the end.
pub data Scanned : Type 0 where
  Token : ℕ → ℕ → ℕ → ℕ → Scanned
  Stray : ℕ → Scanned
  End : ℕ → Scanned

-- "Spaces (20) and line ends (0D, 0A)".
unfoldable pub is_blank : ℕ → Bool
is_blank b = eqb b 0x20 || (eqb b 0x0D || eqb b 0x0A)

unfoldable pub is_digit : ℕ → Bool
is_digit b = leb 0x30 b && leb b 0x39

-- The digits that these bytes begin with, each as its number.
unfoldable pub digits : List ℕ → List ℕ
digits [] = []
digits (b ∷ more) = cond (is_digit b) ((b - 0x30) ∷ digits more) []

-- The digit that these bytes begin with, and 10 where they begin with none.
unfoldable pub digit_of : List ℕ → ℕ
digit_of [] = 10
digit_of (b ∷ more) = cond (is_digit b) (b - 0x30) 10

-- The number that digits write after this one.
unfoldable pub value : ℕ → List ℕ → ℕ
value n [] = n
value n (d ∷ more) = value (10 * n + d) more

-- "Atoms are p0 to p255; .. above 255 or .. a leading zero starts no permitted token": the digits of an atom.
unfoldable pub atom_allowed : List ℕ → Bool
atom_allowed [] = false
atom_allowed (d ∷ []) = true
atom_allowed (d ∷ e ∷ more) = not (eqb d 0) && leb (value 0 (d ∷ e ∷ more)) 255

-- Whether the bytes begin with this word.
unfoldable pub begins : List ℕ → List ℕ → Bool
begins [] bytes = true
begins (w ∷ word) [] = false
begins (w ∷ word) (b ∷ more) = eqb b w && begins word more

-- "The other tokens are `-`, `not`, `:-`, `,`, `.`, `abducible` and `false`."
unfoldable pub words : List (List ℕ)
words = ascii "-" ∷ ascii "not" ∷ ascii ":-" ∷ ascii "," ∷ ascii "." ∷ ascii "abducible" ∷ ascii "false" ∷ []

-- The size of the word of a list that the bytes begin with; 0 where they begin with none.
unfoldable pub word_size : List (List ℕ) → List ℕ → ℕ
word_size [] bytes = 0
word_size (word ∷ more) bytes = cond (begins word bytes) (length word) (word_size more bytes)

-- "All digits after the p belong to it": the size of an atom with these digits.
unfoldable pub atom_size : List ℕ → ℕ
atom_size digits = cond (atom_allowed digits) (1 + length digits) 0

-- The size of the permitted token that the bytes begin with; 0 where they begin with none.
unfoldable pub token_size : List ℕ → ℕ
token_size bytes = cond (eqb (get_or bytes 0 0) 0x70) (atom_size (digits (drop 1 bytes))) (word_size words bytes)

-- The number after the first character: an atom's, and 0 for any other token.
unfoldable pub number_after : List ℕ → ℕ
number_after bytes = cond (eqb (get_or bytes 0 0) 0x70) (value 0 (digits (drop 1 bytes))) 0

-- The token that the bytes from a place on begin with.
unfoldable pub token_here : ℕ → List ℕ → Scanned
token_here place bytes =
    cond (eqb (token_size bytes) 0) (Stray place)
    (Token (get_or bytes 0 0) (number_after bytes) place (place + token_size bytes))

-- The next token, where these are the bytes from a place on: "spaces and line ends may stand before and after any token".
unfoldable pub next_token : ℕ → List ℕ → Scanned
next_token place [] = End place
next_token place (b ∷ more) = cond (is_blank b) (next_token (place + 1) more) (token_here place (b ∷ more))

-- A text as its tokens, each with its place, its kind and its number, up to the end or the first character that starts none.
pub data Tokens : Type 0 where
  token : ℕ → ℕ → ℕ → Tokens → Tokens
  stray : ℕ → Tokens
  end : ℕ → Tokens

abbrev pub token_then : ℕ → List ℕ → (ℕ → Tokens) → ℕ → Tokens
token_then place bytes later zero = stray place
token_then place bytes later (suc size) = token place (get_or bytes 0 0) (number_after bytes) (later size)

-- The tokens of the bytes from a place on, of which the first `taken` belong to the token before.
unfoldable pub tokens_from : ℕ → ℕ → List ℕ → Tokens
tokens_from place taken [] = end place
tokens_from place (suc taken) (b ∷ more) = tokens_from (place + 1) taken more
tokens_from place zero (b ∷ more) =
    let skipped = tokens_from (place + 1) 0 more in
    let found = token_then place (b ∷ more) (λ taken. tokens_from (place + 1) taken more) (token_size (b ∷ more)) in
    cond (is_blank b) skipped found

abbrev pub tokens : List ℕ → Tokens
tokens text = tokens_from 0 0 text
