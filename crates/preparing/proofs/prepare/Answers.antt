-- `preparing::prepare` meets its contract.
use native.Mathlib.Omega.{arith}
use mathlib.Core.Path.{◌≡◌, sym, ap, ◌∙◌}
use mathlib.Core.List.{List}
use Prim.Native.Nat.{ℕ, ◌≤◌}
use lib.ListN.{length}
use Rattle.literals.specs.Numbering.{judged}
use Rattle.papers.specs.Program.{Program}
use Rattle.papers.specs.Field.{numbers}
use Rattle.papers.specs.Reading.{program_in}
use Rattle.parts.specs.Parts.{Unmarked}
use Rattle.papers.proofs.NumbersWalked.{count_numbers}
use Rattle.papers.proofs.FileFacts.{atoms_are}
use Rattle.papers.proofs.FoldsWalked.{rules_counted, few_folds}
use Rattle.copying.proofs.LaidLaws.{laid_first}
use Rattle.rows.specs.Rows.{rule_rows, entry_rows, joined}
use Rattle.rows.proofs.RowLaws.{rule_rows_count, rule_rows_bound, entry_rows_count, entry_rows_bound}
use Rattle.preparing.proofs.RowsPrepared.{visits_unmarked, rows_prepared}
use Rattle.preparing.proofs.prepare.Goals as goal
use Rattle.preparing.proofs.prepare.Goals.{After-fold_count-count, After-judged-judged, After-order_rows, Start}

-- ---- what the file says

module _ (c : Start) where
  abbrev program : Program
  program = program_in c.args.file.now.bytes.now

  few : length (rule_rows program) ≤ 1280
  few =
      let file = c.args.file.now in
      let counted = rules_counted file.bytes.now file.contents file.walked.answer in
      omega (arith, few_folds file.bytes.now file.contents file.walked.answer, counted, rule_rows_count program)

  rules_room : length (joined (rule_rows program)) ≤ length c.args.rules.now
  rules_room = omega (arith, rule_rows_bound program c.requires.0.starts.valid, c.requires.1.rules_fit)

  entries_room : length (joined (entry_rows program)) ≤ length c.args.entries.now
  entries_room = omega (arith, entry_rows_bound program c.requires.0.starts.valid, c.requires.1.entries_fit)

-- ---- where the judged literals are counted

module _ (c : After-judged-judged) where
  counted : c.judged-judged.result ≡ judged (program (goal.at.After-judged-judged c).Start).atoms
  counted = let file = c.args.file.now in c.judged-judged.ensures ∙ ap judged (sym (atoms_are file.bytes.now file.contents file.walked.answer))

  judged_few : c.judged-judged.result ≤ 513
  judged_few = omega (arith, counted, c.requires.0.starts.valid.few_atoms)

  entries_listed : c.judged-judged.result ≡ length (entry_rows (program (goal.at.After-judged-judged c).Start))
  entries_listed = counted ∙ sym (entry_rows_count (program (goal.at.After-judged-judged c).Start))

-- ---- where the folds are counted

module _ (c : After-fold_count-count) where
  rules_listed : c.fold_count-count.result ≡ length (rule_rows (program (goal.at.After-fold_count-count c).Start))
  rules_listed = c.fold_count-count.ensures ∙ sym (rule_rows_count (program (goal.at.After-fold_count-count c).Start))

  folds_few : c.fold_count-count.result ≤ 1280
  folds_few = omega (arith, rules_listed, few (goal.at.After-fold_count-count c).Start)

-- ---- one call after the other

pub decode_dual-requires : goal.decode_dual-requires
decode_dual-requires c =
    let at_judged = (goal.at.decode_dual-requires c).After-judged-judged in
    (c.requires.0.starts, (counted at_judged, (c.requires.1.entries_fit, omega arith)))

pub order_rows-requires : goal.order_rows-requires
order_rows-requires c =
    let at_judged = (goal.at.order_rows-requires c).After-judged-judged in
    let few-entries = judged_few at_judged in
    let few-rules = folds_few (goal.at.order_rows-requires c).After-fold_count-count in (
      few-entries,
      (
        few-rules,
        (
          omega (arith, c.decode_dual.auto.starts),
          (
            omega (arith, c.requires.1.entry_visits_fit),
            (omega (arith, c.decode_rules.auto.starts), omega (arith, c.requires.1.rule_visits_fit)),
          ),
        ),
      ),
    )

-- ---- where the rows are ordered

module _ (o : After-order_rows) where
  abbrev rules_ordered : List ℕ
  rules_ordered = o.order_rows.new.rule_visits

  abbrev entries_ordered : List ℕ
  entries_ordered = o.order_rows.new.entry_visits

  rules_unmarked : Unmarked o.fold_count-count.result rules_ordered
  rules_unmarked =
      let p = program (goal.at.After-order_rows o).Start in
      let listed = rules_listed (goal.at.After-order_rows o).After-fold_count-count in
      visits_unmarked (rule_rows p) _ o.decode_rules.new.starts rules_ordered o.fold_count-count.result listed
      (omega (arith, rule_rows_bound p o.requires.0.starts.valid)) o.decode_rules.ensures.1 o.order_rows.ensures.1.0

  entries_unmarked : Unmarked o.judged-judged.result entries_ordered
  entries_unmarked =
      let p = program (goal.at.After-order_rows o).Start in
      let listed = entries_listed (goal.at.After-order_rows o).After-judged-judged in
      visits_unmarked (entry_rows p) _ o.decode_dual.new.starts entries_ordered o.judged-judged.result listed
      (omega (arith, entry_rows_bound p o.requires.0.starts.valid)) o.decode_dual.ensures.1 o.order_rows.ensures.0.0

-- ---- where they are marked

pub mark_parts-requires : goal.mark_parts-requires
mark_parts-requires c =
    let at_ordered = (goal.at.mark_parts-requires c).After-order_rows in
    let few-rules = folds_few (goal.at.mark_parts-requires c).After-fold_count-count in
    let long = c.order_rows.ensures.1.1.sized in
    (few-rules, (omega (arith, c.requires.1.rule_visits_fit), rules_unmarked at_ordered))

pub mark_parts-requires-2 : goal.mark_parts-requires-2
mark_parts-requires-2 c =
    let at_judged = (goal.at.mark_parts-requires-2 c).After-judged-judged in
    let at_ordered = (goal.at.mark_parts-requires-2 c).After-order_rows in
    let few-entries = judged_few at_judged in
    let long = c.order_rows.ensures.0.1.sized in
    (omega arith, (omega (arith, c.requires.1.entry_visits_fit), entries_unmarked at_ordered))

pub returns : goal.returns
returns c =
    let at_start = (goal.at.returns c).Start in
    let at_ordered = (goal.at.returns c).After-order_rows in
    let at_judged = (goal.at.returns c).After-judged-judged in
    let copied = c.copy_numbers in
    let listed = rules_listed (goal.at.returns c).After-fold_count-count in
    let asked = sym (count_numbers c.args.query.now) in
    record {
      rules_in_lem =
          rows_prepared 0 (rule_rows (program at_start)) c.args.rules.now c.decode_rules.new.numbers c.args.rule_visits.now
          (rules_ordered at_ordered) c.mark_parts.new.visits (rules_room at_start)
          (omega (arith, few at_start, c.requires.1.rule_visits_fit)) _
          c.decode_rules.new.starts c.decode_rules.ensures.0 c.decode_rules.ensures.1 c.fold_count-count.result listed
          c.order_rows.ensures.1.0 c.order_rows.ensures.1.1 c.mark_parts.ensures.0 c.mark_parts.ensures.1;
      entries_in =
          rows_prepared 1 (entry_rows (program at_start)) c.args.entries.now c.decode_dual.new.numbers c.args.entry_visits.now
          (entries_ordered at_ordered) c.mark_parts-2.new.visits (entries_room at_start)
          (omega (arith, judged_few at_judged, entries_listed at_judged, c.requires.1.entry_visits_fit)) _
          c.decode_dual.new.starts c.decode_dual.ensures.0 c.decode_dual.ensures.1 c.judged-judged.result (entries_listed at_judged)
          c.order_rows.ensures.0.0 c.order_rows.ensures.0.1 c.mark_parts-2.ensures.0 c.mark_parts-2.ensures.1;
      query_in = copied.ensures ∙ laid_first (numbers c.args.query.now) c.args.asked.now;
      counted = λ i. record { folds = c.fold_count-count.ensures i; judged = counted at_judged i; asked = asked i };
    }
