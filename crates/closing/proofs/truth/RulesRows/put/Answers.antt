-- `closing::truth::Rules::put` meets its contract.
use native.Mathlib.Omega.{arith}
use Rattle.closing.specs.Closing.{rule_in}
use Rattle.closing.proofs.ClosingLaws.{body_part, rule_goes_on}
use Rattle.closing.proofs.truth.RulesRows.put.Goals as goal

pub bounds-truth-head : goal.bounds-truth-head
unfolding rule_in
bounds-truth-head c = omega (arith, c.objective_in-head.ensures, c.requires.head)

pub offset_bounds-truth-head : goal.offset_bounds-truth-head
unfolding rule_in
offset_bounds-truth-head c = omega (arith, c.objective_in-head.ensures, c.requires.head)

pub body_word-requires : goal.body_word-requires
body_word-requires c = rw (body_part c.args.self.now.rows.now c.args.place c.number_in.result c.number_in.ensures.0) c.requires.body

pub bounds-truth-head-2 : goal.bounds-truth-head-2
unfolding rule_in
bounds-truth-head-2 c = omega (arith, c.objective_in-head.ensures, c.requires.head)

pub offset_bounds-truth-head-2 : goal.offset_bounds-truth-head-2
unfolding rule_in
offset_bounds-truth-head-2 c = omega (arith, c.objective_in-head.ensures, c.requires.head)

pub returns-clause-does : goal.returns-clause-does
unfolding rule_in
returns-clause-does c =
    let a = c.args in
    let rows = a.self.now.rows.now in
    let head = c.objective_in-head.ensures in
    let size = c.number_in in
    record {
      lanes = c.other_lanes.result;
      word = c.body_word.result;
      fits = omega arith;
      others = rw head at c.other_lanes.ensures;
      holds = rw (body_part rows a.place size.result size.ensures.0) at c.body_word.ensures;
      is = rw head;
      told = rw head;
    }

pub returns-clause-goes_on : goal.returns-clause-goes_on
returns-clause-goes_on c = rule_goes_on c.requires (record { many = c.told-truth; fits = c.fits-truth }) (returns-clause-does c)
