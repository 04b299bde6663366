-- The table of the reference calls, in document 01's order, then document 02's: what each says, then the theorem beside its name.
-- Assumes nothing.
use mathlib.Core.Path.{◌≡◌}
use mathlib.Core.Bool.{true, false}
use mathlib.Core.List.{[], ◌∷◌, map}
use lib.ListN.{length, get_or}
use Rattle.papers.specs.declared.Paper.TheVariants.{File, Sheet}
use Rattle.papers.specs.Outcome.{accepted, refused, refusal}
use Rattle.papers.specs.Told.{tells, refused_by}
use Rattle.papers.specs.Reading.{read_file, read_sheet}
use Rattle.papers.specs.Encoding.{encode_file, encode_sheet}
use Rattle.dual.specs.Table.{dual}
use Rattle.dual.specs.TableEncoding.{encode_dual, read_fields}
use Rattle.literals.specs.declared.forms.Form.TheVariants as form
use Rattle.std.specs.Prelude.{Some, None}
use Rattle.literals.specs.Section21.{conj_e}
use Rattle.literals.specs.Numbering.{falsum, literal_form, explicit_conjugate, default_conjugate}
use Rattle.model.specs.Model.{model, model_bytes, rounds, explains}
use Rattle.steps.specs.Explanations.{stop}
use Rattle.steps.specs.Continuing.{fresh, continue}
use Rattle.held.specs.Masks.{masks}
use Rattle.held.specs.HeldProblem.{held_problem}
use Rattle.held.specs.HeldCalls.{fresh_search}
use Rattle.fresh.specs.Beginning.{fresh_told}
use Rattle.trying.specs.Trying.{problem_of}
use Rattle.decimals.specs.Text.{ascii}
use Rattle.text.specs.Lines as text
use Rattle.text.specs.Lines.{text_refusal}
use Rattle.text.specs.Importing.{import_text}
use Rattle.reference.specs.Programs.{example21, example21_dual, example31, contradiction, contradiction_allowed, query_d, allowed}
use Rattle.reference.specs.Programs.{example32, figure_p0, figure_p3, figure_p4, figure_q8, figure_q11}
use Rattle.reference.specs.Programs.{u, unsettled, unsettled_dual, self_denied, besides_false, denied_by_u, one_rule}
use Rattle.reference.proofs.Example21.{accepted21, length21, dual21}
use Rattle.reference.proofs.Models.{model21, rounds21, accepted31, model31, rounds31}
use Rattle.reference.proofs.Models.{contradiction_accepted, contradiction_falsum, contradiction_none}
use Rattle.reference.proofs.Searches.{Read, whole, example32_read, example32_found, figure_p0_read, figure_p0_found, figure_p3_read, figure_p3_found}
use Rattle.reference.proofs.Searches.{figure_p4_read, figure_p4_found, figure_q8_read, figure_q8_found, figure_q11_read, figure_q11_found}
use Rattle.reference.proofs.HeldSearches.{assumed_begins, assumed_found, ruled_found, ruled_stop, both_ruled_found, shared_refused}
use Rattle.reference.proofs.HeldSearches.{unlisted_refused}
use Rattle.reference.proofs.Contradictions.{allowed_read, allowed_model, allowed_rounds, allowed_none, allowed_untouched}
use Rattle.reference.proofs.Contradictions.{allowed_unasked, allowed_open, allowed_found}
use Rattle.reference.specs.Texts.{typed_rule, forms_text, typed_forms, typed_touching, typed_rising, seventeen_text, repeated}
use Rattle.reference.proofs.TypedTexts.{rule_typed, rule_read, forms_typed, forms_read, touching_typed, rising_typed, above_255, leading_zero}
use Rattle.reference.proofs.TypedTexts.{two_atoms, inside_a_line, earlier_bar, earlier_stray, seventeenth, long_body, fixed_head, overfull}
use Rattle.reference.proofs.Undefined.{unsettled_accepted, unsettled_model, unsettled_dual_lem, unsettled_back, self_denied_same, besides_false_model}
use Rattle.reference.proofs.Undefined.{denied_read, denied_models, denied_found, head_refused, sheet_refused, below_u_refused}
use Rattle.reference.proofs.FourForms.{p1, forms_of_p1, default_of_p1, explicit_of_p1, explicit_numbers}

pub record Calls : Type 0 where
  -- "Example 2.1: a, b, c = 0, 1, 2; c :- not b; b :- a; -b; a :- not a. Model 0 2 2 1 1 2 2, 3 rounds, dual 60 bytes."
  pub example21_accepted : read_file (encode_file example21) ≡ accepted example21
  pub example21_model : model_bytes example21 0 ≡ 0 ∷ 2 ∷ 2 ∷ 1 ∷ 1 ∷ 2 ∷ 2 ∷ []
  pub example21_rounds : rounds example21 0 ≡ 3
  pub example21_length : length (encode_dual (dual example21)) ≡ 60
  pub example21_dual_lem : encode_dual (dual example21) ≡ example21_dual
  -- "Example 3.1: s true; all else, falsum too, false; 2 rounds."
  pub example31_accepted : read_file (encode_file example31) ≡ accepted example31
  pub example31_model : model_bytes example31 0 ≡ 1 ∷ 2 ∷ 2 ∷ 2 ∷ 2 ∷ 2 ∷ 2 ∷ 2 ∷ 2 ∷ []
  pub example31_rounds : rounds example31 0 ≡ 2
  -- "Example 3.2, p*, q* abducible in that order, query q: only scenario 5."
  pub example32_read : Read example32
  pub example32_found : continue (problem_of example32) 9 fresh (0 ∷ 0 ∷ []) ≡ whole 9 1 (5 ∷ 0 ∷ []) 17
  -- "Not p0 gives 8."
  pub not_p0_read : Read figure_p0
  pub not_p0_found : continue (problem_of figure_p0) 9 fresh (0 ∷ 0 ∷ []) ≡ whole 9 1 (8 ∷ 0 ∷ []) 9
  -- "Not p4 gives 1, 3."
  pub not_p4_read : Read figure_p4
  pub not_p4_found : continue (problem_of figure_p4) 9 fresh (0 ∷ 0 ∷ []) ≡ whole 9 2 (1 ∷ 3 ∷ []) 15
  -- "q8 gives 2, 3."
  pub q8_read : Read figure_q8
  pub q8_found : continue (problem_of figure_q8) 9 fresh (0 ∷ 0 ∷ []) ≡ whole 9 2 (2 ∷ 3 ∷ []) 13
  -- "Not q11 (a alone) gives 1, 2."
  pub not_q11_read : Read figure_q11
  pub not_q11_found : continue (problem_of figure_q11) 9 fresh (0 ∷ 0 ∷ []) ≡ whole 3 2 (1 ∷ 2 ∷ []) 5
  -- "p3 (none) gives nothing, 1 tried."
  pub p3_read : Read figure_p3
  pub p3_found : continue (problem_of figure_p3) 9 fresh [] ≡ whole 1 0 [] 1
  -- "d :- a; -d; falsum :- d, -d; query d; a assumed: falsum 3, no explanation. Without the integrity rule d is 3": what it then is, Card 3 says below.
  pub contradiction_accepted : read_file (encode_file contradiction) ≡ accepted contradiction
  pub contradiction_falsum : get_or (model_bytes contradiction 1) (falsum 2) 0 ≡ 3
  pub contradiction_unexplained : explains contradiction query_d 1 ≡ false
  pub allowed_read : Read allowed
  pub allowed_model : model_bytes contradiction_allowed 1 ≡ 1 ∷ 2 ∷ 3 ∷ 3 ∷ 2 ∷ []
  pub allowed_rounds : rounds contradiction_allowed 1 ≡ 2
  -- Card 1. Figure 1's not p4 with a held as assumed: 1 alone; the scenarios that do not agree count as tried "with zero rounds".
  pub assumed_begins : fresh_told (read_file (encode_file figure_p4.program)) (masks 1 0) ≡ tells (fresh_search (masks 1 0))
  pub assumed_found : continue (held_problem (problem_of figure_p4) (masks 1 0)) 9 fresh (0 ∷ 0 ∷ []) ≡ whole 9 1 (1 ∷ 0 ∷ []) 6
  -- With a held as ruled out: 5, although 3 is part of it and does not agree; the stopping point where there is no room.
  pub ruled_found : continue (held_problem (problem_of figure_p4) (masks 0 1)) 9 fresh (0 ∷ 0 ∷ []) ≡ whole 9 1 (5 ∷ 0 ∷ []) 5
  pub ruled_stop : stop (held_problem (problem_of figure_p4) (masks 0 1)) 0 ≡ 5
  -- With both held as ruled out, against both explanations: nothing.
  pub both_ruled_found : continue (held_problem (problem_of figure_p4) (masks 0 3)) 9 fresh (0 ∷ 0 ∷ []) ≡ whole 9 0 (0 ∷ 0 ∷ []) 2
  -- "15 when the masks share a bit, then 16 when a bit at or above k is set."
  pub shared_refused : fresh_told (read_file (encode_file figure_p4.program)) (masks 5 4) ≡ refused_by 15
  pub unlisted_refused : fresh_told (read_file (encode_file figure_p4.program)) (masks 5 2) ≡ refused_by 16
  -- Card 2. The literals of atom 1, p1, not p1, -p1 and not -p1: "The default conjugate takes all four, the explicit one only the first two."
  pub forms_of_p1 : map literal_form (4 ∷ 5 ∷ 6 ∷ 7 ∷ []) ≡ form.Atom p1 ∷ form.NotAtom p1 ∷ form.NegatedAtom p1 ∷ form.NotNegatedAtom p1 ∷ []
  pub default_of_p1 : map default_conjugate (4 ∷ 5 ∷ 6 ∷ 7 ∷ []) ≡ 5 ∷ 4 ∷ 7 ∷ 6 ∷ []
  pub explicit_of_p1 : map (λ l. conj_e (literal_form l)) (4 ∷ 5 ∷ 6 ∷ 7 ∷ []) ≡ Some (form.NegatedAtom p1) ∷ None ∷ Some (form.Atom p1) ∷ None ∷ []
  pub explicit_numbers : map explicit_conjugate (2 ∷ 3 ∷ []) ≡ 3 ∷ 2 ∷ []
  -- Card 3. "A scenario with any model byte 3 is no explanation": asked for d, for a, for nothing. "The reference call without its integrity rule now
  -- finds nothing."
  pub allowed_unexplained : explains contradiction_allowed query_d 1 ≡ false
  pub allowed_untouched : explains contradiction_allowed (0 ∷ []) 1 ≡ false
  pub allowed_unasked : explains contradiction_allowed [] 1 ≡ false
  pub allowed_open : explains contradiction_allowed [] 0 ≡ true
  pub allowed_found : continue (problem_of allowed) 9 fresh (0 ∷ 0 ∷ []) ≡ whole 3 0 (0 ∷ 0 ∷ []) 5
  -- Card 4. "The file written is read back as exactly the rules typed."
  pub rule_typed : import_text (ascii "p3 :- -p1, not p0.") ≡ text.accepted typed_rule
  pub rule_read : read_file (encode_file typed_rule) ≡ accepted typed_rule
  pub forms_typed : import_text forms_text ≡ text.accepted typed_forms
  pub forms_read : read_file (encode_file typed_forms) ≡ accepted typed_forms
  pub touching_typed : import_text (ascii "-p1:-notp0,not-p255.") ≡ text.accepted typed_touching
  pub rising_typed : import_text (ascii "abducible p2. abducible p0. abducible p2.") ≡ text.accepted typed_rising
  -- "17 at the first character that starts no permitted token, 18 at the first token the line form doesn't allow, or at the end inside a line; the
  -- earlier place decides."
  pub above_255 : import_text (ascii "p1 :- p256.") ≡ text.refused (text_refusal 17 6)
  pub leading_zero : import_text (ascii "p0. p01.") ≡ text.refused (text_refusal 17 4)
  pub two_atoms : import_text (ascii "p3p4.") ≡ text.refused (text_refusal 18 2)
  pub inside_a_line : import_text (ascii "p1 ") ≡ text.refused (text_refusal 18 3)
  pub earlier_bar : import_text (ascii "p1 p2 x") ≡ text.refused (text_refusal 18 3)
  pub earlier_stray : import_text (ascii "p1 x p2") ≡ text.refused (text_refusal 17 3)
  -- "Then the file's own numbers .. the place being the first token of the line whose field fails."
  pub seventeenth : import_text seventeen_text ≡ text.refused (text_refusal 3 227)
  pub long_body : import_text (ascii "p0. p1 :- p0,p0,p0,p0,p0,p0,p0,p0,p0,p0,p0,p0,p0,p0,p0,p0,p0.") ≡ text.refused (text_refusal 3 4)
  pub fixed_head : import_text (ascii "p2. p1. abducible p1.") ≡ text.refused (text_refusal 8 4)
  pub overfull : import_text (repeated 257 (ascii "false.")) ≡ text.refused (text_refusal 9 1536)
  -- Card 5. "The literal FFFF now means undefined .. It never holds and never fails": p :- u leaves p undefined, as p :- not p does.
  pub unsettled_accepted : read_file (encode_file unsettled) ≡ accepted unsettled
  pub unsettled_model : model_bytes unsettled 0 ≡ 0 ∷ 2 ∷ 2 ∷ []
  pub self_denied_same : model self_denied 0 ≡ model unsettled 0
  -- "Its default conjugate is itself", and it is read back.
  pub unsettled_dual_lem : encode_dual (dual unsettled) ≡ unsettled_dual
  pub unsettled_back : read_fields 5 unsettled_dual ≡ dual unsettled
  -- p :- u, q with q false makes p false; falsum :- u leaves falsum undefined, so that no scenario is an explanation.
  pub besides_false_model : model_bytes besides_false 0 ≡ 2 ∷ 2 ∷ 2 ∷ 2 ∷ 2 ∷ []
  pub denied_read : Read denied_by_u
  pub denied_models : map (model_bytes denied_by_u.program) (0 ∷ 1 ∷ 2 ∷ []) ≡ (0 ∷ 0 ∷ 0 ∷ []) ∷ (1 ∷ 2 ∷ 0 ∷ []) ∷ (2 ∷ 1 ∷ 0 ∷ []) ∷ []
  pub denied_found : continue (problem_of denied_by_u) 9 fresh (0 ∷ 0 ∷ []) ≡ whole 3 0 (0 ∷ 0 ∷ []) 2
  -- "In heads and in the sheet FFFF is still refused as unlisted", and FFFE everywhere.
  pub head_refused : read_file (encode_file (one_rule u [])) ≡ refused (refusal 6 File 12)
  pub sheet_refused : read_sheet 1 (encode_sheet (u ∷ [])) ≡ refused (refusal 6 Sheet 0)
  pub below_u_refused : read_file (encode_file (one_rule 0 (0xFFFE ∷ []))) ≡ refused (refusal 6 File 12)

pub calls : Calls
calls = record {
  example21_accepted = accepted21;
  example21_model = model21;
  example21_rounds = rounds21;
  example21_length = length21;
  example21_dual_lem = dual21;
  example31_accepted = accepted31;
  example31_model = model31;
  example31_rounds = rounds31;
  example32_read = example32_read;
  example32_found = example32_found;
  not_p0_read = figure_p0_read;
  not_p0_found = figure_p0_found;
  not_p4_read = figure_p4_read;
  not_p4_found = figure_p4_found;
  q8_read = figure_q8_read;
  q8_found = figure_q8_found;
  not_q11_read = figure_q11_read;
  not_q11_found = figure_q11_found;
  p3_read = figure_p3_read;
  p3_found = figure_p3_found;
  contradiction_accepted = contradiction_accepted;
  contradiction_falsum = contradiction_falsum;
  contradiction_unexplained = contradiction_none;
  allowed_read = allowed_read;
  allowed_model = allowed_model;
  allowed_rounds = allowed_rounds;
  assumed_begins = assumed_begins;
  assumed_found = assumed_found;
  ruled_found = ruled_found;
  ruled_stop = ruled_stop;
  both_ruled_found = both_ruled_found;
  shared_refused = shared_refused;
  unlisted_refused = unlisted_refused;
  forms_of_p1 = forms_of_p1;
  default_of_p1 = default_of_p1;
  explicit_of_p1 = explicit_of_p1;
  explicit_numbers = explicit_numbers;
  allowed_unexplained = allowed_none;
  allowed_untouched = allowed_untouched;
  allowed_unasked = allowed_unasked;
  allowed_open = allowed_open;
  allowed_found = allowed_found;
  rule_typed = rule_typed;
  rule_read = rule_read;
  forms_typed = forms_typed;
  forms_read = forms_read;
  touching_typed = touching_typed;
  rising_typed = rising_typed;
  above_255 = above_255;
  leading_zero = leading_zero;
  two_atoms = two_atoms;
  inside_a_line = inside_a_line;
  earlier_bar = earlier_bar;
  earlier_stray = earlier_stray;
  seventeenth = seventeenth;
  long_body = long_body;
  fixed_head = fixed_head;
  overfull = overfull;
  unsettled_accepted = unsettled_accepted;
  unsettled_model = unsettled_model;
  self_denied_same = self_denied_same;
  unsettled_dual_lem = unsettled_dual_lem;
  unsettled_back = unsettled_back;
  besides_false_model = besides_false_model;
  denied_read = denied_read;
  denied_models = denied_models;
  denied_found = denied_found;
  head_refused = head_refused;
  sheet_refused = sheet_refused;
  below_u_refused = below_u_refused;
}
