-- Card 4's forms and refusals, by computation.
-- Assumes nothing.
use mathlib.Core.Path.{◌≡◌, refl}
use mathlib.Core.List.{[], ◌∷◌, ◌++◌}
use Rattle.papers.specs.Outcome as file
use Rattle.papers.specs.Encoding.{encode_file}
use Rattle.papers.specs.Reading.{read_file}
use Rattle.decimals.specs.Text.{ascii}
use Rattle.text.specs.Lines.{accepted, refused, text_refusal}
use Rattle.text.specs.Importing.{import_text}
use Rattle.text.specs.Computing.{computing}
use Rattle.text.proofs.ReadBack.{read_back}
use Rattle.reference.specs.Texts.{typed_rule, forms_text, typed_forms, typed_touching, typed_rising, typed_nothing, seventeen_text, repeated}

pub rule_typed : import_text (ascii "p3 :- -p1, not p0.") ≡ accepted typed_rule
unfolding computing
rule_typed = refl

pub rule_read : read_file (encode_file typed_rule) ≡ file.accepted typed_rule
rule_read = read_back (ascii "p3 :- -p1, not p0.") typed_rule rule_typed

pub forms_typed : import_text forms_text ≡ accepted typed_forms
unfolding computing
forms_typed = refl

pub forms_read : read_file (encode_file typed_forms) ≡ file.accepted typed_forms
forms_read = read_back forms_text typed_forms forms_typed

pub touching_typed : import_text (ascii "-p1:-notp0,not-p255.") ≡ accepted typed_touching
unfolding computing
touching_typed = refl

pub rising_typed : import_text (ascii "abducible p2. abducible p0. abducible p2.") ≡ accepted typed_rising
unfolding computing
rising_typed = refl

pub nothing_typed : import_text (ascii " " ++ 0x0A ∷ []) ≡ accepted typed_nothing
unfolding computing
nothing_typed = refl

-- ---- 17

pub above_255 : import_text (ascii "p1 :- p256.") ≡ refused (text_refusal 17 6)
unfolding computing
above_255 = refl

pub leading_zero : import_text (ascii "p0. p01.") ≡ refused (text_refusal 17 4)
unfolding computing
leading_zero = refl

pub no_digit : import_text (ascii "p :- .") ≡ refused (text_refusal 17 0)
unfolding computing
no_digit = refl

pub tab : import_text (ascii "p1" ++ 0x09 ∷ ascii ".") ≡ refused (text_refusal 17 2)
unfolding computing
tab = refl

pub cut_word : import_text (ascii "fals") ≡ refused (text_refusal 17 0)
unfolding computing
cut_word = refl

-- ---- 18

pub two_atoms : import_text (ascii "p3p4.") ≡ refused (text_refusal 18 2)
unfolding computing
two_atoms = refl

pub no_literal : import_text (ascii "p1 :- .") ≡ refused (text_refusal 18 6)
unfolding computing
no_literal = refl

pub not_first : import_text (ascii "nothing.") ≡ refused (text_refusal 18 0)
unfolding computing
not_first = refl

pub inside_a_line : import_text (ascii "p1 ") ≡ refused (text_refusal 18 3)
unfolding computing
inside_a_line = refl

-- The earlier place decides.
pub earlier_bar : import_text (ascii "p1 p2 x") ≡ refused (text_refusal 18 3)
unfolding computing
earlier_bar = refl

pub earlier_stray : import_text (ascii "p1 x p2") ≡ refused (text_refusal 17 3)
unfolding computing
earlier_stray = refl

-- ---- the file's own numbers

pub fixed_head : import_text (ascii "p2. p1. abducible p1.") ≡ refused (text_refusal 8 4)
unfolding computing
fixed_head = refl

pub long_body : import_text (ascii "p0. p1 :- p0,p0,p0,p0,p0,p0,p0,p0,p0,p0,p0,p0,p0,p0,p0,p0,p0.") ≡ refused (text_refusal 3 4)
unfolding computing
long_body = refl

-- At the line that names the seventeenth different one.
pub seventeenth : import_text seventeen_text ≡ refused (text_refusal 3 227)
unfolding computing
seventeenth = refl

pub overfull : import_text (repeated 257 (ascii "false.")) ≡ refused (text_refusal 9 1536)
unfolding computing repeated
overfull = refl
