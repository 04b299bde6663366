-- `text::token::token_here` meets its contract: an atom, or a word that its first character tells.
use native.Mathlib.Omega.{arith}
use Rattle.text.proofs.WordLaws.{word_told, minus, not_word, arrow, comma, stop, abducible, false_word, none_told}
use Rattle.text.proofs.token.token_here.Goals as goal

pub returns-in-45 : goal.returns-in-45
returns-in-45 c = word_told _ _ c.requires minus c.in-45.is c.word_here.ensures

pub returns-in-110 : goal.returns-in-110
returns-in-110 c = word_told _ _ c.requires not_word c.in-110.is c.word_here-in-110.ensures

pub returns-in-58 : goal.returns-in-58
returns-in-58 c = word_told _ _ c.requires arrow c.in-58.is c.word_here-in-58.ensures

pub returns-in-44 : goal.returns-in-44
returns-in-44 c = word_told _ _ c.requires comma c.in-44.is c.word_here-in-44.ensures

pub returns-in-46 : goal.returns-in-46
returns-in-46 c = word_told _ _ c.requires stop c.in-46.is c.word_here-in-46.ensures

pub returns-in-97 : goal.returns-in-97
returns-in-97 c = word_told _ _ c.requires abducible c.in-97.is c.word_here-in-97.ensures

pub returns-in-102 : goal.returns-in-102
returns-in-102 c = word_told _ _ c.requires false_word c.in-102.is c.word_here-in-102.ensures

pub returns-in_default : goal.returns-in_default
returns-in_default c =
    none_told _ _ c.requires (λ q. omega arith) (λ q. omega arith) (λ q. omega arith) (λ q. omega arith) (λ q. omega arith) (λ q. omega arith)
    (λ q. omega arith) (λ q. omega arith)
