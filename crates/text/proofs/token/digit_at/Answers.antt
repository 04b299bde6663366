-- `text::token::digit_at` meets its contract: a law for each answer.
use mathlib.Core.Path.{◌≡◌, sym, ◌∙◌}
use native.Mathlib.Omega.{arith}
use borrow.Author.Rules.{rules}
use lib.ListN.{get_or}
use Rattle.text.specs.Tokens.{is_digit}
use Rattle.text.proofs.TokenLaws.{digit_past, digit_found, digit_none}
use Rattle.text.proofs.token.digit_at.Goals as goal

pub returns-in_err-b-clause-value : goal.returns-in_err-b-clause-value
returns-in_err-b-clause-value c =
    rw c.from_residual.ensures (sym (digit_past c.args.text.now c.args.at (omega (arith, c.in_err-b.ensures.lookup))))

pub returns-then-is_ascii_digit-clause-value : goal.returns-then-is_ascii_digit-clause-value
unfolding is_digit
returns-then-is_ascii_digit-clause-value c =
    let l = c.in_ok-b.ensures.lookup in
    let is : c.in_ok-b.field-0.now ≡ get_or c.args.text.now c.args.at 0 = search rules in
    sym (digit_found c.args.text.now c.args.at (omega (arith, l)) is (sym c.is_ascii_digit.ensures.value ∙ c.if-is_ascii_digit.true))

pub returns-else-is_ascii_digit-clause-value : goal.returns-else-is_ascii_digit-clause-value
unfolding is_digit
returns-else-is_ascii_digit-clause-value c =
    let l = c.in_ok-b.ensures.lookup in
    let is : c.in_ok-b.field-0.now ≡ get_or c.args.text.now c.args.at 0 = search rules in
    sym (digit_none c.args.text.now c.args.at (omega (arith, l)) is (sym c.is_ascii_digit.ensures.value ∙ c.if-is_ascii_digit.false))
