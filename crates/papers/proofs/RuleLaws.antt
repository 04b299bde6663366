-- The rules of a program by fold number, and where each one's head and body stand in its file.
-- Assumes nothing.
use mathlib.Core.Path.{◌≡◌, ap, ◌∙◌}
use mathlib.Core.List.{List, [], ◌++◌, map}
use Prim.Native.Nat.{ℕ, zero, suc, ◌+◌, ◌-◌, ◌*◌, ◌≤◌, ◌<◌}
use native.Mathlib.Omega.{arith}
use lib.ListN.{length, get_or, take, drop, length-append, length-map, get_or-append}
use lib.Seq.{get_or-append-add}
use Rattle.literals.specs.Numbering.{falsum, fold_of_rule, fold_of_integrity}
use Rattle.papers.specs.Program.{Rule, Program, denial, no_rule, all_rules, rule_at}
use Rattle.papers.specs.Outcome.{accepted}
use Rattle.papers.specs.Field.{number, numbers}
use Rattle.papers.specs.Reading.{read_file}
use Rattle.papers.specs.Valid.{All, none, each, ValidBody, ValidRule, Valid}
use Rattle.papers.specs.Places.{field_numbers, fold_place}
use Rattle.papers.proofs.NumberLaws.{Bytes}
use Rattle.papers.proofs.Lists.{all_map, all_each, get_or_map_lt}
use Rattle.papers.proofs.FoldLaws as folds

-- ---- by fold number

pub rules_sum : (p : Program) → length (all_rules p) ≡ length p.rules + length p.integrity
unfolding all_rules
rules_sum p = rw (length-append, length-map)

pub rules_count : (p : Program) → length (all_rules p) ≡ length (field_numbers p)
rules_count p = let a = rules_sum p in let b = folds.fold_count p in omega arith

-- "Rules have fold numbers from 0 in file order";
pub fold_of_rule_lem : (p : Program) (i : ℕ) → i < length p.rules → rule_at p (fold_of_rule i) ≡ get_or p.rules i no_rule
unfolding all_rules
fold_of_rule_lem p i h = get_or-append p.rules (map (denial p.atoms) p.integrity) no_rule i h

-- "integrity rules go on from there", with falsum for their head.
pub fold_of_integrity_lem : (p : Program) (i : ℕ) → i < length p.integrity
    → rule_at p (fold_of_integrity (length p.rules) i) ≡ denial p.atoms (get_or p.integrity i [])
unfolding all_rules
fold_of_integrity_lem p i h =
    get_or-append-add p.rules (map (denial p.atoms) p.integrity) i no_rule ∙ get_or_map_lt (denial p.atoms) p.integrity i no_rule [] h

-- The same from the fold number.
pub later_is : (p : Program) (i : ℕ) → length p.rules ≤ i → i < length (all_rules p)
    → get_or (all_rules p) i no_rule ≡ denial p.atoms (get_or p.integrity (i - length p.rules) [])
later_is p i g h =
    let sum = rules_sum p in
    let q : length p.rules + (i - length p.rules) ≡ i = omega arith in
    rw q at (fold_of_integrity_lem p (i - length p.rules) (omega arith))

-- "Head falsum."
pub integrity_head : (p : Program) (i : ℕ) → length p.rules ≤ i → i < length (all_rules p) → (get_or (all_rules p) i no_rule).head ≡ falsum p.atoms
integrity_head p i g h = rw (later_is p i g h)

-- ---- of a valid program

-- A head is an objective literal, falsum or below it, and a body is one of the file's.
pub record Fits (n : ℕ) (r : Rule) : Type 0 where
  pub headed : r.head ≤ falsum n
  pub body : ValidBody n r.body

pub all_append : {A : Type 0} {P : A → Type 0} {a b : List A} → All P a → All P b → All P (a ++ b)
all_append none y = y
all_append (each p rest) y = each p (all_append rest y)

pub all_at : {A : Type 0} {P : A → Type 0} {l : List A} → All P l → (i : ℕ) (d : A) → i < length l → P (get_or l i d)
all_at none i d h = absurd (omega arith)
all_at (each p rest) zero d h = p
all_at (each p rest) (suc i) d h = all_at rest i d (omega arith)

rule_fits : (n : ℕ) (abducibles : List ℕ) (r : Rule) → ValidRule n abducibles r → Fits n r
rule_fits n abducibles r v = record { headed = omega (arith, v.listed); body = v.body }

denial_fits : (n : ℕ) (body : List ℕ) → ValidBody n body → Fits n (denial n body)
denial_fits n body v = record { headed = omega arith; body = v }

pub rules_fit : (p : Program) → Valid p → All (Fits p.atoms) (all_rules p)
unfolding all_rules
rules_fit p v =
    all_append (all_each (rule_fits p.atoms p.abducibles) v.rules) (all_map (denial p.atoms) (denial_fits p.atoms) v.integrity)

pub rule_fitting : (p : Program) → Valid p → (i : ℕ) → i < length (all_rules p) → Fits p.atoms (get_or (all_rules p) i no_rule)
rule_fitting p v i h = all_at (rules_fit p v) i no_rule h

pub head_within : (p : Program) → Valid p → (i : ℕ) → i < length (all_rules p) → (get_or (all_rules p) i no_rule).head ≤ falsum p.atoms
head_within p v i h = (rule_fitting p v i h).headed

-- ---- in the file

-- A body stands as the part of a file from start to stop.
pub record BodyAt (bytes : List ℕ) (start stop : ℕ) (body : List ℕ) : Type 0 where
  pub is : numbers (take (stop - start) (drop start bytes)) ≡ body
  pub size : stop - start ≡ 2 * length body
  pub ordered : start ≤ stop
  pub within : stop ≤ length bytes

module _ (bytes : List ℕ) (p : Program) (b : Bytes bytes) (e : read_file bytes ≡ accepted p) where
  -- A rule's body stands after a heading and a head,
  pub rule_part : (i : ℕ) → i < length p.rules
      → BodyAt bytes (fold_place p i + 5) (fold_place p (i + 1)) (get_or (all_rules p) i no_rule).body
  rule_part i h =
      let r = get_or p.rules i no_rule in
      let count = folds.fold_count p in
      let w : i < length (field_numbers p) = omega arith in
      let next = folds.fold_next p i w in
      let l = ap length (folds.rule_numbers_lem p i no_rule h) in
      let within = folds.fold_within bytes p b e i w in
      let size : fold_place p (i + 1) - (fold_place p i + 5) ≡ 2 * length r.body = omega arith in
      let here : BodyAt bytes (fold_place p i + 5) (fold_place p (i + 1)) r.body = record {
        is = rw size (folds.rule_body bytes p b e i no_rule h);
        size = size;
        ordered = omega arith;
        within = within;
      } in
      rw (fold_of_rule_lem p i h) here

  -- an integrity rule's after a heading.
  pub integrity_part : (i : ℕ) → length p.rules ≤ i → i < length (all_rules p)
      → BodyAt bytes (fold_place p i + 3) (fold_place p (i + 1)) (get_or (all_rules p) i no_rule).body
  integrity_part i g h =
      let j = i - length p.rules in
      let body = get_or p.integrity j [] in
      let sum = rules_sum p in
      let count = rules_count p in
      let q : length p.rules + j ≡ i = omega arith in
      let w : i < length (field_numbers p) = omega arith in
      let next = folds.fold_next p i w in
      let l : length (get_or (field_numbers p) i []) ≡ length body = ap length (rw q at (folds.integrity_numbers p j)) in
      let within = folds.fold_within bytes p b e i w in
      let size : fold_place p (i + 1) - (fold_place p i + 3) ≡ 2 * length body = omega arith in
      let here : BodyAt bytes (fold_place p i + 3) (fold_place p (i + 1)) body = record {
        is = rw size (rw q at (folds.integrity_body bytes p b e j (omega arith)));
        size = size;
        ordered = omega arith;
        within = within;
      } in
      rw (later_is p i g h) here

  pub rule_head : (i : ℕ) → i < length p.rules
      → number (get_or bytes (fold_place p i + 3) 0) (get_or bytes (fold_place p i + 4) 0) ≡ (get_or (all_rules p) i no_rule).head
  rule_head i h = rw (fold_of_rule_lem p i h) (folds.rule_head bytes p b e i no_rule h)
