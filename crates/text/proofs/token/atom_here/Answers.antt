-- `text::token::atom_here` meets its contract: a law for each answer, by the digits that were found.
use mathlib.Core.Path.{◌≡◌, refl, sym, ◌∙◌}
use mathlib.Core.Bool.{true, false}
use Prim.Native.Nat.{ℕ, ◌+◌, ◌*◌, ◌<◌, ◌≤◌}
use lib.ListN.{drop}
use Rattle.std.proofs.Common.{Option, Some, None, Result, Ok, Err, IfSome, is_some, unwrap_or}
use Rattle.std.specs.Result.{OkIff, result_ok}
use Rattle.std.proofs.lemmas.Result.{OkIff-at_ok, OkIff-at_err}
use native.Mathlib.Omega.{arith}
use Rattle.text.specs.Tokens.{digit_of}
use Rattle.text.proofs.TokenLaws.{no_digit, one_digit, zero_first, two_digits, four_digits, too_large, three_digits}
use Rattle.text.proofs.token.atom_here.Goals as goal
use Rattle.text.proofs.token.atom_here.Goals.{After-from-3, Else-is_some}

pub returns-in_err-first : goal.returns-in_err-first
returns-in_err-first c = rw c.from_residual.ensures (no_digit _ _ c.requires.1 c.in_err-first.ensures.value)

pub returns-in_default : goal.returns-in_default
returns-in_default c =
    let first = c.in_ok-first.ensures in
    one_digit _ _ c.requires.1 first.value first.small c.in_default.ensures.value

pub returns-then-first-eq0 : goal.returns-then-first-eq0
returns-then-first-eq0 c =
    let first = c.in_ok-first.ensures in
    let second = c.in-Some.ensures in
    zero_first _ _ c.requires.1 first.value first.small second.value second.small c.if-first-eq0.true

pub returns-in_default-digit_at : goal.returns-in_default-digit_at
returns-in_default-digit_at c =
    let first = c.in_ok-first.ensures in
    let second = c.in-Some.ensures in
    two_digits _ _ c.requires.1 first.value first.small second.value second.small c.if-first-eq0.false c.in_default-digit_at.ensures.value

-- ---- the fourth digit

some_digit : (found : Option ℕ) → is_some found ≡ true → IfSome found (λ d. d ≤ 9) → unwrap_or found 10 ≤ 9
some_digit (Some d) e small = small
some_digit None e small = absurd (cc)

other_digit : (found : Option ℕ) → is_some found ≡ false → 10 ≡ unwrap_or found 10
other_digit (Some d) e = absurd (cc)
other_digit None e = refl

pub returns-then-is_some : goal.returns-then-is_some
returns-then-is_some c =
    let first = c.in_ok-first.ensures in
    let second = c.in-Some.ensures in
    let third = c.in-Some-digit_at.ensures in
    let fourth = c.digit_at-4.ensures in
    let found = some_digit _ (sym c.is_some.ensures ∙ c.if-is_some.true) fourth.small in
    four_digits _ _ c.requires.1 first.value first.small second.value second.small c.if-first-eq0.false third.value third.small fourth.value found

-- ---- three digits

module _ (c : Else-is_some) where
  none : 10 ≡ digit_of (drop (c.args.at + 4) c.args.text.now)
  none = other_digit _ (sym c.is_some.ensures ∙ c.if-is_some.false) ∙ c.digit_at-4.ensures.value

fits : {E : Type 0} (r : Result ℕ E) {v a : ℕ} → OkIff r (v < 256) v → Some a ≡ result_ok r → (v < 256) × (a ≡ v)
fits {E} (Ok x) {v} {a} h e = let p = OkIff-at_ok {E = E} (Ok x) (v < 256) v x h refl in let q : a ≡ x = cc in (p.0, q ∙ p.1)
fits (Err y) h e = absurd (cc)

over : {E : Type 0} (r : Result ℕ E) {v : ℕ} → OkIff r (v < 256) v → None ≡ result_ok r → 255 < v
over (Ok x) h e = absurd (cc)
over {E} (Err y) {v} h e = let no = OkIff-at_err {T = ℕ} (Err y) (v < 256) v y h refl in omega arith

-- Their number.
module _ (c : After-from-3) where
  abbrev value : ℕ
  value = 100 * c.from.result + 10 * c.from-2.result + c.from-3.result

  sum : value ≡ 100 * c.in_ok-first.first + 10 * c.in-Some.second + c.in-Some-digit_at.third
  sum = rw (c.from.ensures, c.from-2.ensures, c.from-3.ensures)

pub returns-in_err-atom : goal.returns-in_err-atom
returns-in_err-atom c =
    let first = c.in_ok-first.ensures in
    let second = c.in-Some.ensures in
    let third = c.in-Some-digit_at.ensures in
    let large = over _ c.try_from.ensures c.in_err-atom.ensures.value in
    rw c.from_residual-in_err-atom.ensures
    (too_large _ _ c.requires.1 first.value first.small second.value second.small c.if-first-eq0.false third.value third.small
    (none (goal.at.returns-in_err-atom c).Else-is_some) (sum (goal.at.returns-in_err-atom c).After-from-3) large)

pub returns : goal.returns
returns c =
    let first = c.in_ok-first.ensures in
    let second = c.in-Some.ensures in
    let third = c.in-Some-digit_at.ensures in
    let small = fits _ c.try_from.ensures c.in_ok-atom.ensures.value in
    three_digits _ _ c.requires.1 first.value first.small second.value second.small c.if-first-eq0.false third.value third.small
    (none (goal.at.returns c).Else-is_some) (small.1 ∙ sum (goal.at.returns c).After-from-3) (omega (arith, small))
