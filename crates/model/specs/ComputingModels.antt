-- What has to unfold for a model to be computed: a theorem says `unfolding modelling`.
use Rattle.literals.specs.ComputingConjugates.{conjugating}
use Rattle.papers.specs.Program.{all_rules}
use Rattle.papers.specs.Content.{is_among}
use Rattle.dual.specs.Table.{folds_from, folds_of, is_empty, is_fact, has_entry, fold_field, entry, entries_from, dual}
use Rattle.papers.specs.Tests.{◌and◌, ◌or◌}
use Rattle.model.specs.Sets.{flags_from, empty, full, complement, same_flag, same_set}
use Rattle.model.specs.Iteration.{iterate, first_still}
use Rattle.model.specs.Scenarios.{digit_of, true_abducible, undefined_abducible, false_abducible, true_abducibles, possible_abducibles}
use Rattle.model.specs.LeastSet.{literal_holds, body_holds, supported, step, least}
use Rattle.model.specs.Model.{conjugate_in, same_interpretation, true_reduct, possible_reduct, true_set, possible_set, false_set, successor, start}
use Rattle.model.specs.Model.{interpretation_at, rounds, model, value_byte, value_bytes, model_bytes}
use Rattle.model.specs.Model.{query_literal_holds, query_holds, contradictory, explains_by, explains}
use Rattle.model.specs.Falsity.{listed_by, some_holds, folds_hold, entry_holds, backed, backed_set, greatest}

-- Sets and least sets,
unfoldable sets : Unit {0}
unfolding ◌and◌ ◌or◌ flags_from empty full complement same_flag same_set iterate first_still literal_holds body_holds supported step least
sets = tt

-- scenarios,
unfoldable scenarios : Unit {0}
unfolding digit_of true_abducible undefined_abducible false_abducible true_abducibles possible_abducibles
scenarios = tt

-- the rounds,
unfoldable sequence : Unit {0}
unfolding conjugate_in same_interpretation true_reduct possible_reduct true_set possible_set false_set successor start interpretation_at rounds
sequence = tt

-- the verdict of a model's bytes,
unfoldable verdict : Unit {0}
unfolding query_literal_holds query_holds contradictory explains_by explains
verdict = tt

-- the model, its bytes and its verdict,
unfoldable pub modelling : Unit {0}
unfolding sets scenarios sequence conjugating all_rules model value_byte value_bytes model_bytes verdict
modelling = tt

-- the dual's fields,
unfoldable pub fields : Unit {0}
unfolding conjugating is_among all_rules folds_from folds_of is_empty is_fact has_entry fold_field entry entries_from dual
fields = tt

-- and falsity from them.
unfoldable pub falsity : Unit {0}
unfolding modelling fields listed_by some_holds folds_hold entry_holds backed backed_set greatest
falsity = tt
