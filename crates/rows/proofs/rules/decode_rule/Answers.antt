-- `rows::rules::decode_rule` meets its contract.
use native.Mathlib.Omega.{arith}
use mathlib.Core.Path.{◌≡◌, ◌∙◌}
use mathlib.Core.List.{List}
use Prim.Native.Nat.{ℕ, ◌+◌, ◌≤◌, ◌/◌}
use lib.ListN.{length, set, length-set}
use Rattle.papers.specs.Program.{Rule, rule_at}
use Rattle.papers.specs.Reading.{program_in}
use Rattle.papers.proofs.FoldsWalked.{few_body}
use Rattle.rows.proofs.RowLaws.{rule_row_length}
use Rattle.rows.proofs.DecodedLaws.{body_counted, rule_laid}
use Rattle.rows.proofs.rules.decode_rule.Goals as goal
use Rattle.rows.proofs.rules.decode_rule.Goals.{After-body_of-body}

-- ---- where the body is found

module _ (c : After-body_of-body) where
  abbrev rule : Rule
  rule = rule_at (program_in c.args.file.now.bytes.now) c.args.fold.0

  abbrev body : List ℕ
  body = c.body_of-body.result.now

  -- There is room for the row.
  room : c.args.at + (2 + length rule.body) ≤ length c.args.numbers.now
  room = let l = rule_row_length rule in omega (arith, c.requires.1)

  -- Writing its first two numbers leaves the array as long as it was.
  kept : (x y : ℕ) → length (set (set c.args.numbers.now c.args.at x) (c.args.at + 1) y) ≡ length c.args.numbers.now
  kept x y =
      length-set (set c.args.numbers.now c.args.at x) (c.args.at + 1) y ∙ length-set c.args.numbers.now c.args.at x

  -- The body is short.
  few : length body ≤ 32
  few =
      let a = c.args in
      let file = a.file.now in
      let f = few_body file.bytes.now file.contents file.walked.answer a.fold.0 c.requires.0 in
      omega (arith, c.body_of-body.ensures.size)

pub bounds-numbers-at : goal.bounds-numbers-at
bounds-numbers-at c =
    let at_body_of_body = (goal.at.bounds-numbers-at c).After-body_of-body in
    omega (arith, room at_body_of_body)

pub overflow_cast-numbers-2 : goal.overflow_cast-numbers-2
overflow_cast-numbers-2 c =
    let at_body_of_body = (goal.at.overflow_cast-numbers-2 c).After-body_of-body in
    omega (arith, few at_body_of_body)

pub bounds-numbers-at-2 : goal.bounds-numbers-at-2
bounds-numbers-at-2 c =
    let at_body_of_body = (goal.at.bounds-numbers-at-2 c).After-body_of-body in
    let a = c.args in
    let l = length-set a.numbers.now a.at c.head_of-head.result.0 in
    omega (arith, room at_body_of_body)

pub copy_numbers-requires : goal.copy_numbers-requires
copy_numbers-requires c =
    let at_body_of_body = (goal.at.copy_numbers-requires c).After-body_of-body in
    let k = kept at_body_of_body c.head_of-head.result.0 (length (body at_body_of_body) / 2) in
    let n = body_counted (rule at_body_of_body) (body at_body_of_body) c.body_of-body.ensures in
    omega (arith, room at_body_of_body)

pub returns : goal.returns
returns c =
    let at_body_of_body = (goal.at.returns c).After-body_of-body in
    let a = c.args in
    let n = body_counted (rule at_body_of_body) (body at_body_of_body) c.body_of-body.ensures in
    let l = rule_row_length (rule at_body_of_body) in (
      omega (arith, c.body_of-body.ensures.size),
      c.copy_numbers.ensures
          ∙ rule_laid (rule at_body_of_body) (body at_body_of_body) c.body_of-body.ensures a.at c.head_of-head.result.0 a.numbers.now c.head_of-head.ensures.0
          c.requires.1,
    )
