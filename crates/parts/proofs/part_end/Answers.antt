-- `parts::part_end` meets its contract.
use Rattle.std.proofs.Common.{◌<◌, length, ℕ, List, drop, ◌∙◌, rules, tests, MatchOption}
use Rattle.std.specs.List.{AllWithin, HoldsAt}
use Rattle.std.proofs.lemmas.Iterator.{IsFirst-from_position, YieldsList-from_slice}
use Rattle.std.proofs.lemmas.Option.{MatchOption-at_some, MatchOption-at_none}
use Rattle.papers.proofs.NumbersWalked.{to_end}
use Rattle.parts.proofs.MarkedParts.{Marks, Plain, ended_at, ended_last}
use Rattle.parts.proofs.part_end.Goals as goal
use Rattle.parts.proofs.part_end.Goals.{After-position}

module _ (c : After-position) where
  abbrev rest : List ℕ
  rest = drop c.args.start c.args.visits.now

  found : MatchOption c.position.result (AllWithin Plain rest 0 (length rest)) (λ i. (i < length rest) × HoldsAt Marks rest i × AllWithin Plain rest 0 i)
  found =
      let listed = YieldsList-from_slice rest (c.iter.ensures.rest ∙ to_end c.args.start c.args.visits.now) in
      IsFirst-from_position _ _ _ Marks Plain c.position.ensures.ran listed (λ x q k. search (rules, tests)) (λ x q k. search (rules, tests))

pub returns-in-Some : goal.returns-in-Some
returns-in-Some c =
    let m = MatchOption-at_some _ _ _ c.in-Some.is (found (goal.at.returns-in-Some c).After-position) in
    ended_at c.args.visits.now c.args.start c.in-Some.last m.0 m.1 m.2

pub returns-in-None : goal.returns-in-None
returns-in-None c =
    ended_last c.args.visits.now c.args.start c.requires (MatchOption-at_none _ _ c.in-None.is (found (goal.at.returns-in-None c).After-position))
