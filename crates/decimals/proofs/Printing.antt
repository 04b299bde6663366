-- Printing, one text after another. Assumes nothing.
use mathlib.Core.Path.{◌≡◌, refl, ◌∙◌}
use mathlib.Core.List.{List, [], ◌∷◌, ◌++◌, append_assoc, append-nil}
use Prim.Native.Nat.{ℕ, ◌+◌, ◌/◌, ◌%◌, ◌^◌, ◌≤◌, ◌<◌}
use native.Mathlib.Omega.{arith}
use native.Mathlib.Numerals.{add-one}
use lib.ListN.{length, get_or, take}
use lib.Seq.{take-suc}
use Rattle.decimals.specs.Decimal.{decimal}
use Rattle.decimals.specs.Text.{written, spaced, line}
use Rattle.decimals.specs.declared.Printer.{Printer}
use Rattle.decimals.specs.Printing.{Printed}
use Rattle.decimals.proofs.DecimalLaws.{decimal_one, decimal_more, decimal_length}
use Rattle.decimals.proofs.Putting.{put_two, further, line_further, spaced_further}

pub printed_none : (p : Printer) → Printed [] p p
unfolding written
printed_none p = record { put = record { place = omega arith; bytes = refl }; same_buffer = refl }

pub printed_append : {x y : List ℕ} {p q r : Printer} → Printed x p q → Printed y q r → Printed (x ++ y) p r
printed_append {x = x} {y = y} a b = record { put = put_two x y a.put b.put; same_buffer = b.same_buffer ∙ a.same_buffer }

-- A line, by its first item and the further ones.
pub printed_line : {p q : Printer} (first : List ℕ) (more : List (List ℕ)) → Printed (first ++ further more) p q → Printed (line first more) p q
printed_line first more a = rw (line_further first more) a

-- A line in three pieces: its first item and a number, what follows them, and the newline.
pub printed_items : {p q r s : Printer} (first number : List ℕ) (items : List (List ℕ)) → Printed (first ++ 32 ∷ number) p q
    → Printed (spaced items) q r → Printed (10 ∷ []) r s → Printed (line first (number ∷ items)) p s
unfolding further
printed_items {p = p} {q = q} {s = s} first number items a b c =
    let rest : Printed (further items) q s = rw (← spaced_further items) (printed_append b c) in
    printed_line first (number ∷ items) (rw (← append_assoc first (32 ∷ number) (further items)) (printed_append a rest))

-- Of a text that is printed from a printer `first` on, `rest` is left.
pub record Due (whole : List ℕ) (first : Printer) (rest : List ℕ) (now : Printer) : Type 0 where
  pub done : List ℕ
  pub printed : Printed done first now
  pub both : done ++ rest ≡ whole

pub due_all : (whole : List ℕ) (p : Printer) → Due whole p whole p
due_all whole p = record { done = []; printed = printed_none p; both = refl }

pub due_after : {whole text rest : List ℕ} {first p q : Printer} → Due whole first (text ++ rest) p → Printed text p q → Due whole first rest q
due_after {text = text} {rest = rest} d a =
    record { done = d.done ++ text; printed = printed_append d.printed a; both = append_assoc d.done text rest ∙ d.both }

pub due_none : {whole : List ℕ} {first p : Printer} → Due whole first [] p → Printed whole first p
due_none d = rw (← d.both, append-nil d.done) d.printed

-- One byte more of a text.
pub printed_byte : {p q r : Printer} (i : ℕ) (text : List ℕ) → i < length text → Printed (take i text) p q → Printed (get_or text i 0 ∷ []) q r
    → Printed (take (i + 1) text) p r
printed_byte i text h a b = rw (add-one i, take-suc text i 0 h) (printed_append a b)

-- A number's last digit, after those before it where it has more than one.
module _ {p r : Printer} (n : ℕ) where
  pub printed_one : n < 10 → Printed ((48 + n % 10) ∷ []) p r → Printed (decimal n) p r
  printed_one h b = rw (decimal_one n h) (let e : n % 10 ≡ n = omega arith in rw e at b)

  pub printed_more : {q : Printer} → 10 ≤ n → Printed (decimal (n / 10)) p q → Printed ((48 + n % 10) ∷ []) q r → Printed (decimal n) p r
  printed_more h a b = rw (decimal_more n h) (printed_append a b)

  pub printed_short : n < 2 ^ 64 → Printed (decimal n) p r → r.at ≤ p.at + 20
  printed_short fits b = let few = decimal_length 19 n (omega arith) in let e = b.put.place in omega arith
