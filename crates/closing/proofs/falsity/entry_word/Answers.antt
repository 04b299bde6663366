-- `closing::falsity::entry_word` meets its contract. The loop's invariant: of the lanes, each clause has a literal that holds in those of the word
-- in which the clauses that are still to come have one.
use native.Mathlib.Omega.{arith}
use Rattle.lanes.proofs.WordLaws.{literals_of}
use Rattle.closing.proofs.EntryWords.{entry_within, entry_to_none, entry_to_all, entry_to_left, clause_whole, clause_below, entry_to_more}
use Rattle.closing.proofs.falsity.entry_word.Goals as goal

pub number_in-requires : goal.number_in-requires
number_in-requires c =
    let a = c.args in
    omega (arith, entry_within _ a.rows.now a.place a.truth.now a.falses.now a.lanes c.requires)

pub slice_bounds-rest-end : goal.slice_bounds-rest-end
slice_bounds-rest-end c =
    let a = c.args in
    omega (arith, entry_within _ a.rows.now a.place a.truth.now a.falses.now a.lanes c.requires)

pub loop-size-init : goal.loop-size-init
loop-size-init c = entry_to_none _ _ _ _ _ _ c.requires _ c.number_in.ensures.0

pub returns-then-word-eq0 : goal.returns-then-word-eq0
returns-then-word-eq0 c = let l = c.loop-size in entry_to_left _ _ _ _ _ _ c.requires l.rest.now l.word l.invariant c.if-word-eq0.true

pub split_at-requires : goal.split_at-requires
split_at-requires c =
    let l = c.loop-size in
    clause_whole _ _ _ _ _ _ c.requires l.rest.now l.word l.invariant _ _ c.in-Some.ensures.cases.0 c.from.ensures

pub clause_word-word-requires : goal.clause_word-word-requires
clause_word-word-requires c =
    let l = c.loop-size in
    literals_of (omega (arith, c.requires.valid.few_atoms))
    (clause_below _ _ _ _ _ _ c.requires l.rest.now l.word l.invariant _ _ c.in-Some.ensures.cases.0 c.from.ensures c.split_at.ensures.front
    c.split_at.ensures.back)

pub loop-size-preserved : goal.loop-size-preserved
loop-size-preserved c =
    let l = c.loop-size in
    entry_to_more _ _ _ _ _ _ c.requires l.rest.now l.word l.invariant _ _ c.in-Some.ensures.cases.0 c.from.ensures c.split_at.ensures.front
    c.split_at.ensures.back _ c.clause_word-word.ensures

pub returns : goal.returns
returns c =
    let l = c.loop-size in
    entry_to_all _ _ _ _ _ _ c.requires l.rest.now l.word l.invariant c.in_default.ensures.cases
