-- `text::token::next_token` meets its contract: the blanks are passed over, and the token behind them is told.
use mathlib.Core.Path.{◌≡◌, refl, sym, ap, ◌∙◌}
use mathlib.Core.Bool.{not}
use mathlib.Core.List.{List}
use Prim.Native.Nat.{ℕ, ◌+◌, ◌-◌}
use native.Mathlib.Omega.{arith}
use borrow.Author.Rules.{rules}
use lib.ListN.{length, take, drop, length-drop}
use lib.Seq.{drop-drop}
use Rattle.std.proofs.Common.{tests, Some, None, cond, ltb}
use Rattle.std.proofs.lemmas.Iterator.{YieldsList-from_slice}
use Rattle.std.proofs.lemmas.Iterator.Search.{position_from_yields_List}
use Rattle.papers.proofs.NumbersWalked.{to_end}
use Rattle.text.specs.Tokens.{is_blank, token_here, next_token}
use Rattle.text.specs.Told.{here_told}
use Rattle.text.proofs.TokenLaws.{blanks, next_some, next_none}
use Rattle.text.proofs.token.next_token.Goals as goal
use Rattle.text.proofs.token.next_token.Goals.{After-position}

module _ (c : After-position) where
  abbrev bytes : List ℕ
  bytes = drop c.args.from c.args.text.now

  abbrev lent : List ℕ
  lent = take (length c.args.text.now - c.args.from) bytes

  -- The first that is no blank.
  found : c.position.result ≡ cond (ltb (blanks bytes) (length bytes)) (Some (blanks bytes)) None
  found =
      rw to_end at
      (position_from_yields_List (λ b. not (is_blank b)) _ _ c.position.result c.position.ensures.ran (YieldsList-from_slice lent cc)
      (λ x b q k. search (rules, tests)))

  -- What stands there.
  reached : {n : ℕ} → c.position.result ≡ Some n
      → next_token c.args.from bytes ≡ token_here (c.args.from + n) (drop (c.args.from + n) c.args.text.now)
  reached {n} e = rw (← drop-drop n c.args.from c.args.text.now) (next_some bytes c.args.from (sym e ∙ found)).0

pub returns-in_default : goal.returns-in_default
returns-in_default c =
    let f = found (goal.at.returns-in_default c).After-position in
    let l = length-drop c.args.from c.args.text.now in
    let all : c.args.from + length (drop c.args.from c.args.text.now) ≡ length c.args.text.now = omega arith in
    rw all at (next_none (drop c.args.from c.args.text.now) c.args.from (sym c.in_default.is ∙ f))

pub returns-in_default-token_here : goal.returns-in_default-token_here
returns-in_default-token_here c =
    let r = reached (goal.at.returns-in_default-token_here c).After-position c.in-Some.is in
    (refl, r ∙ sym c.token_here.ensures ∙ ap (here_told _) c.in_default-token_here.is)

pub returns : goal.returns
returns c =
    let r = reached (goal.at.returns c).After-position c.in-Some.is in
    r ∙ sym c.token_here.ensures ∙ ap (here_told _) c.in-Some-token_here.is
