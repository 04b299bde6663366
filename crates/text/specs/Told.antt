-- The answers of the code in the definitions' terms: kinds of tokens by their first characters, refusals by their numbers.
use Rattle.std.specs.Prelude.{◌≡◌, List, ℕ, Option, Some, None, Result, Ok, Err, length, drop}
use Rattle.papers.specs.Told.{fault_number}
use Rattle.text.specs.declared.TextFault.{TextFault}
use Rattle.text.specs.declared.TextFault.TheVariants.{Character, Line, File}
use Rattle.text.specs.declared.TextRefusal.{TextRefusal}
use Rattle.text.specs.declared.token.Token.{Token}
use Rattle.text.specs.declared.token.Token.TheVariants.{Abducible, False, Minus, Not, Arrow, Comma, Stop, Atom}
use Rattle.text.specs.declared.token.Scanned.{Scanned}
use Rattle.text.specs.Tokens as tokens
use Rattle.text.specs.Lines as lines

-- "17 at the first character that starts no permitted token, 18 at the first token the line form doesn't allow, or at the end inside a
-- line .. Then the file's own numbers".
abbrev pub text_fault_number : TextFault → ℕ
text_fault_number Character = 17
text_fault_number Line = 18
text_fault_number (File fault) = fault_number fault

abbrev pub refusal_of : TextRefusal → lines.TextRefusal
refusal_of r = lines.text_refusal (text_fault_number r.fault) r.place

unfoldable pub reading_told : {A : Type 0} → Result A TextRefusal → lines.Reading A
reading_told (Ok a) = lines.accepted a
reading_told (Err r) = lines.refused (refusal_of r)

-- The first character of a token, and its number: an atom's, and 0 for any other token.
abbrev pub kind_of : Token → ℕ
kind_of Abducible = 0x61
kind_of False = 0x66
kind_of Minus = 0x2D
kind_of Not = 0x6E
kind_of Arrow = 0x3A
kind_of Comma = 0x2C
kind_of Stop = 0x2E
kind_of (Atom a) = 0x70

abbrev pub number_of : Token → ℕ
number_of Abducible = 0
number_of False = 0
number_of Minus = 0
number_of Not = 0
number_of Arrow = 0
number_of Comma = 0
number_of Stop = 0
number_of (Atom a) = a

-- The token at a place, with the place after it.
abbrev pub here_told : ℕ → Option (Token × ℕ) → tokens.Scanned
here_told place (Some found) = tokens.Token (kind_of found.0) (number_of found.0) place found.1
here_told place None = tokens.Stray place

-- The next token from a place on.
abbrev pub NextTells : List ℕ → ℕ → Result (Option Scanned) TextRefusal → Type 0
NextTells text from (Ok (Some s)) = tokens.next_token from (drop from text) ≡ tokens.Token (kind_of s.token) (number_of s.token) s.start s.end
NextTells text from (Ok None) = tokens.next_token from (drop from text) ≡ tokens.End (length text)
NextTells text from (Err r) = (r.fault ≡ Character) × (tokens.next_token from (drop from text) ≡ tokens.Stray r.place)
