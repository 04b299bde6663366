-- The rules of an accepted file, as the code that walks them meets them.
-- Assumes nothing.
use mathlib.Core.Path.{◌≡◌, sym, ap, ◌∙◌}
use mathlib.Core.List.{List}
use Prim.Native.Nat.{ℕ, ◌+◌, ◌-◌, ◌*◌, ◌≤◌, ◌<◌}
use native.Mathlib.Omega.{arith}
use lib.ListN.{length, get_or, take, drop, length-drop}
use lib.Seq.{length-take-le}
use Rattle.papers.specs.declared.Contents.{Contents}
use Rattle.papers.specs.Program.{Rule, all_rules, rule_at}
use Rattle.papers.specs.Outcome.{accepted}
use Rattle.papers.specs.Field.{number, numbers, size_of}
use Rattle.papers.specs.Reading.{read_file, program_in}
use Rattle.papers.specs.Answers.{contents_of}
use Rattle.papers.specs.Told.{tells, read_told}
use Rattle.papers.specs.Places.{field_numbers, fold_place, Walked, BodyOf}
use Rattle.papers.specs.Valid.{Valid}
use Rattle.papers.proofs.NumberLaws.{Bytes}
use Rattle.papers.proofs.Accepted.{accepted_valid}
use Rattle.papers.proofs.FoldLaws.{abducibles_content, abducibles_within, fold_count, fold_first, fold_next, fold_size, fold_within}
use Rattle.papers.proofs.RuleLaws.{rules_count, rule_fitting, integrity_head, head_within, BodyAt, rule_part, integrity_part, rule_head}
use Rattle.papers.proofs.FileFacts.{told, program_valid, atoms_are, abducibles_are}

module _ (bytes : List ℕ) (contents : Contents) (answer : read_told contents_of (read_file bytes) ≡ tells contents) where
  pub folds_counted : contents.rules.count + contents.integrity.count ≡ length (field_numbers (program_in bytes))
  folds_counted =
      let t = told bytes contents answer in
      let r = ap (λ (x : Contents). x.rules.count) t.contents_are in
      let i = ap (λ (x : Contents). x.integrity.count) t.contents_are in
      omega (arith, fold_count (program_in bytes))

  pub rules_counted : contents.rules.count + contents.integrity.count ≡ length (all_rules (program_in bytes))
  rules_counted = folds_counted ∙ sym (rules_count (program_in bytes))

  -- The abducibles are the numbers of the part of the file from place 12 on.
  pub abducibles_there : Bytes bytes
      → (12 + 2 * contents.abducibles ≤ length bytes) × (numbers (take (2 * contents.abducibles) (drop 12 bytes)) ≡ (program_in bytes).abducibles)
  abducibles_there b =
      let t = told bytes contents answer in
      let k = abducibles_are bytes contents answer in
      let w = abducibles_within bytes (program_in bytes) b t.is in
      (omega arith, rw k at (abducibles_content bytes (program_in bytes) b t.is))

  pub few_folds : contents.rules.count + contents.integrity.count ≤ 1280
  few_folds =
      let t = told bytes contents answer in
      let v = program_valid bytes contents answer in
      let c = folds_counted in
      omega (arith, fold_count (program_in bytes), v.few_rules, v.few_integrity)

  -- A body has at most 16 literals.
  pub few_body : (fold : ℕ) → fold < length (all_rules (program_in bytes)) → length (rule_at (program_in bytes) fold).body ≤ 16
  few_body fold h = (rule_fitting (program_in bytes) (program_valid bytes contents answer) fold h).body.few

  pub first_place : contents.rules.place ≡ fold_place (program_in bytes) 0
  first_place = sym (fold_first (program_in bytes) ∙ ap (λ (x : Contents). x.rules.place) (told bytes contents answer).contents_are)

  module _ (b : Bytes bytes) (i : ℕ) (here : i < contents.rules.count + contents.integrity.count) where
    listed : i < length (field_numbers (program_in bytes))
    listed = let c = folds_counted in omega arith

    -- A heading stands there.
    pub fold_heading : fold_place (program_in bytes) i + 2 < length bytes
    fold_heading =
        let n = fold_next (program_in bytes) i listed in
        omega (arith, fold_within bytes (program_in bytes) b (told bytes contents answer).is i listed)

    pub next_place : {place : ℕ} → place ≡ fold_place (program_in bytes) i → place + 3 + size_of (drop place bytes) ≡ fold_place (program_in bytes) (i + 1)
    next_place {place} e =
        let s : size_of (drop place bytes) ≡ size_of (drop (fold_place (program_in bytes) i) bytes) = ap (λ (x : ℕ). size_of (drop x bytes)) e in
        omega (arith, fold_size bytes (program_in bytes) b (told bytes contents answer).is i listed, fold_next (program_in bytes) i listed)

-- ---- a rule by its fold number

module _ (bytes : List ℕ) (contents : Contents) (places : List ℕ) (w : Walked bytes contents places) (b : Bytes bytes)
    (fold : ℕ) (here : fold < length (all_rules (program_in bytes))) where
  abbrev rule : Rule
  rule = rule_at (program_in bytes) fold

  -- Where its field stands, and where the next one does.
  abbrev place : ℕ
  place = get_or places fold 0

  abbrev next : ℕ
  next = fold_place (program_in bytes) (fold + 1)

  is : read_file bytes ≡ accepted (program_in bytes)
  is = (told bytes contents w.answer).is

  valid : Valid (program_in bytes)
  valid = accepted_valid bytes (program_in bytes) is

  rules_are : length (program_in bytes).rules ≡ contents.rules.count
  rules_are = ap (λ (x : Contents). x.rules.count) (told bytes contents w.answer).contents_are

  counted : fold < contents.rules.count + contents.integrity.count
  counted = omega (arith, folds_counted bytes contents w.answer, rules_count (program_in bytes))

  pub fold_few : fold < 1280
  fold_few = let c = counted in omega (arith, few_folds bytes contents w.answer)

  pub place_heading : place + 2 < length bytes
  place_heading = let e = w.at fold here in omega (arith, fold_heading bytes contents w.answer b fold counted)

  pub place_end : place + 3 + size_of (drop place bytes) ≡ next
  place_end = next_place bytes contents w.answer b fold counted (w.at fold here)

  head_few : rule.head < 513
  head_few = let v = valid in let h = head_within (program_in bytes) v fold here in omega (arith, v.few_atoms)

  -- A rule's head stands after the heading.
  pub headed : fold < contents.rules.count → place + 4 < length bytes
  headed h =
      let r = rules_are in
      let e = w.at fold here in
      let p = rule_part bytes (program_in bytes) b is fold (omega arith) in
      omega (arith, p.ordered, p.within)

  pub head_there : (h : fold < contents.rules.count) {r : ℕ} → r ≡ number (get_or bytes (place + 3) 0) (get_or bytes (place + 3 + 1) 0)
      → (r ≡ rule.head) × (r < 513)
  head_there h {r} q =
      let c = rules_are in
      let k = head_few in
      let s : place + 3 + 1 ≡ place + 4 = omega arith in
      let e = rule_head bytes (program_in bytes) b is fold (omega arith) in
      let f : r ≡ rule.head = q ∙ rw (s, w.at fold here) e in
      (f, omega arith)

  pub head_falsum : contents.rules.count ≤ fold → (2 * contents.atoms ≡ rule.head) × (2 * contents.atoms < 513)
  head_falsum h =
      let c = rules_are in
      let a = atoms_are bytes contents w.answer in
      let k = head_few in
      let e = integrity_head (program_in bytes) fold (omega arith) here in
      (omega arith, omega arith)

  -- The body is the part of the file between these.
  pub body_there : (start end : ℕ) → end ≡ place + 3 + size_of (drop place bytes)
      → BodyAt bytes start next rule.body
      → (start ≤ end) × ((end ≤ length bytes) × BodyOf rule (take (end - start) (drop start bytes)))
  body_there start end e p =
      let q : end ≡ next = e ∙ place_end in
      let l : length (drop start bytes) ≡ length bytes - start = length-drop start bytes in
      let s : length (take (end - start) (drop start bytes)) ≡ end - start = length-take-le (end - start) (drop start bytes) (omega (arith, p.within)) in (
        omega (arith, p.ordered),
        (omega (arith, p.within), record { literals = rw q p.is; size = s ∙ rw q p.size }),
      )

  pub body_headed : fold < contents.rules.count → BodyAt bytes (place + 5) next rule.body
  body_headed h = let c = rules_are in rw (w.at fold here) (rule_part bytes (program_in bytes) b is fold (omega arith))

  pub body_bare : contents.rules.count ≤ fold → BodyAt bytes (place + 3) next rule.body
  body_bare h = let c = rules_are in rw (w.at fold here) (integrity_part bytes (program_in bytes) b is fold (omega arith) here)
