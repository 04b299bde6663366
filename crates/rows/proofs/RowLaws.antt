-- Laws of rows: one after the other in an array, how many they are, and how much room they take.
-- Assumes nothing.
use mathlib.Core.Path.{◌≡◌, refl, sym, ap, ◌∙◌}
use mathlib.Core.Bool.{Bool, true, false, cond}
use mathlib.Core.List.{List, [], ◌∷◌, ◌++◌, map, append-nil, append_assoc}
use Prim.Native.Nat.{ℕ, zero, suc, ◌+◌, ◌*◌, ◌≤◌, ◌<◌}
use native.Mathlib.Omega.{arith}
use lib.Dec.{eqb}
use lib.ListN.{length, get_or, take, drop, length-append, length-map, get_or-append}
use lib.Seq.{get_or-append-add}
use Rattle.literals.specs.Numbering.{judged}
use Rattle.literals.specs.BodyLiterals.{conjugate_number}
use Rattle.papers.specs.Program.{Rule, Program, no_rule, all_rules, rule_at}
use Rattle.papers.specs.Valid.{All, none, each, Valid}
use Rattle.papers.proofs.Lists.{at_place, past_place, get_or_map_lt}
use Rattle.papers.proofs.RuleLaws.{Fits, rules_sum, rules_fit}
use Rattle.dual.specs.Table.{folds_from, folds_of, has_entry}
use Rattle.dual.specs.Length.{rule_length, rules_length, entries_length, dual_length}
use Rattle.dual.specs.Bytes.{filled}
use Rattle.dual.proofs.Bound.{dual_bound}
use Rattle.rows.specs.Rows.{rule_row, clauses_row, clause_of, clauses_of, entry_row, entry_rows_from, rule_rows, entry_rows, joined, Starts, StandsAt}

-- ---- one after the other

-- The first k rows and the next.
pub joined_more : (rows : List (List ℕ)) (k : ℕ) → k < length rows → joined (take (k + 1) rows) ≡ joined (take k rows) ++ get_or rows k []
unfolding joined
joined_more [] k h = absurd (omega arith)
joined_more (row ∷ more) zero h = append-nil row
joined_more (row ∷ more) (suc k) h =
    let s : suc k + 1 ≡ suc (k + 1) = omega arith in
    rw (s, joined_more more k (omega arith)) (sym (append_assoc row (joined (take k more)) (get_or more k [])))

-- A row among those before and those after it.
joined_split : (rows : List (List ℕ)) (k : ℕ) → k < length rows → joined rows ≡ joined (take k rows) ++ (get_or rows k [] ++ joined (drop (k + 1) rows))
unfolding joined
joined_split [] k h = absurd (omega arith)
joined_split (row ∷ more) zero h = refl
joined_split (row ∷ more) (suc k) h =
    let s : suc k + 1 ≡ suc (k + 1) = omega arith in
    rw s
    (ap (λ (l : List ℕ). row ++ l) (joined_split more k (omega arith))
    ∙ sym (append_assoc row (joined (take k more)) (get_or more k [] ++ joined (drop (k + 1) more))))

-- There is room for it.
pub row_within : (rows : List (List ℕ)) (k : ℕ) → k < length rows → length (joined (take k rows)) + length (get_or rows k []) ≤ length (joined rows)
row_within rows k h =
    let row = get_or rows k [] in
    let rest = joined (drop (k + 1) rows) in
    let e = ap length (joined_split rows k h) in
    let a = length-append (joined (take k rows)) (row ++ rest) in
    let b = length-append row rest in
    omega arith

module _ (rows : List (List ℕ)) (buffer : List ℕ) (k : ℕ) (h : k < length rows) where
  abbrev front : List ℕ
  front = joined (take k rows)

  abbrev row : List ℕ
  row = get_or rows k []

  abbrev rest : List ℕ
  rest = joined (drop (k + 1) rows) ++ drop (length (joined rows)) buffer

  filled_split : filled (joined rows) buffer ≡ front ++ (row ++ rest)
  filled_split =
      let after = drop (length (joined rows)) buffer in
      ap (λ (x : List ℕ). x ++ after) (joined_split rows k h)
      ∙ append_assoc front (row ++ joined (drop (k + 1) rows)) after
      ∙ ap (λ (x : List ℕ). front ++ x) (append_assoc row (joined (drop (k + 1) rows)) after)

  row_read : (i : ℕ) → i < length row → get_or (filled (joined rows) buffer) (length front + i) 0 ≡ get_or row i 0
  row_read i l =
      ap (λ (x : List ℕ). get_or x (length front + i) 0) filled_split
      ∙ get_or-append-add front (row ++ rest) i 0
      ∙ get_or-append row rest 0 i l

-- Each row stands from its start on.
pub rows_stand : (rows : List (List ℕ)) (buffer before starts : List ℕ) → length (joined rows) ≤ length buffer → Starts rows before starts
    → (k : ℕ) → k < length rows → StandsAt (get_or rows k []) (filled (joined rows) buffer) (get_or starts k 0)
rows_stand rows buffer before starts room s k h = record {
  within =
      let w = row_within rows k h in
      let a = length-append (joined rows) (drop (length (joined rows)) buffer) in
      omega (arith, s.at k h);
  at = λ i l. ap (λ (j : ℕ). get_or (filled (joined rows) buffer) (j + i) 0) (s.at k h) ∙ row_read rows buffer k h i l;
}

-- ---- how many

pub rule_rows_count : (p : Program) → length (rule_rows p) ≡ length (all_rules p)
rule_rows_count p = length-map (all_rules p) rule_row

pub rule_row_at : (p : Program) (k : ℕ) → k < length (all_rules p) → get_or (rule_rows p) k [] ≡ rule_row (rule_at p k)
rule_row_at p k h = get_or_map_lt rule_row (all_rules p) k [] no_rule h

entries_count : (p : Program) (count o : ℕ) → length (entry_rows_from p count o) ≡ count
unfolding entry_rows_from
entries_count p zero o = refl
entries_count p (suc count) o = ap suc (entries_count p count (o + 1))

pub entry_rows_count : (p : Program) → length (entry_rows p) ≡ judged p.atoms
entry_rows_count p = entries_count p (judged p.atoms) 0

entries_at : (p : Program) (count o i : ℕ) → i < count → get_or (entry_rows_from p count o) i [] ≡ entry_row p (o + i)
unfolding entry_rows_from
entries_at p zero o i h = absurd (omega arith)
entries_at p (suc count) o zero h = let z : o + 0 ≡ o = omega arith in rw z
entries_at p (suc count) o (suc i) h =
    let e : o + 1 + i ≡ o + suc i = omega arith in
    entries_at p count (o + 1) i (omega arith) ∙ ap (entry_row p) e

pub entry_row_at : (p : Program) (o : ℕ) → o < judged p.atoms → get_or (entry_rows p) o [] ≡ entry_row p o
entry_row_at p o h = entries_at p (judged p.atoms) 0 o h ∙ ap (entry_row p) (let z : 0 + o ≡ o = omega arith in z)

-- ---- how much room

pub rule_row_length : (r : Rule) → length (rule_row r) ≡ 2 + length r.body
unfolding rule_row
rule_row_length r = omega arith

-- A head, a count and at most 16 literals.
rules_length_lem : (n : ℕ) (rules : List Rule) → All (Fits n) rules → length (joined (map rule_row rules)) ≤ 18 * length rules
unfolding joined
rules_length_lem n [] none = omega arith
rules_length_lem n (r ∷ more) (each f rest) =
    let a = length-append (rule_row r) (joined (map rule_row more)) in
    let l = rule_row_length r in
    let few = f.body.few in
    let ih = rules_length_lem n more rest in
    omega arith

-- 1,280 rules of 18.
pub rule_rows_bound : (p : Program) → Valid p → length (joined (rule_rows p)) ≤ 23040
rule_rows_bound p v =
    let b = rules_length_lem p.atoms (all_rules p) (rules_fit p v) in
    let s = rules_sum p in
    omega (arith, v.few_rules, v.few_integrity)

pub entry_row_length : (p : Program) (o : ℕ) → length (entry_row p o) ≡ 2 + length (clauses_row (clauses_of p o))
unfolding entry_row
entry_row_length p o = omega arith

-- A fold has at least twice as many bytes as its clause has numbers.
module _ (p : Program) (o : ℕ) where
  clauses_length : (j : ℕ) (rules : List Rule) → drop j (all_rules p) ≡ rules
      → 2 * length (clauses_row (map (clause_of p) (folds_from j rules o))) ≤ rules_length rules o
  unfolding folds_from rules_length clauses_row rule_length
  clauses_length j [] e = omega arith
  clauses_length j (r ∷ more) e = go (eqb r.head o) (clauses_length (j + 1) more (past_place (all_rules p) j e)) where
    go : (b : Bool) → 2 * length (clauses_row (map (clause_of p) (folds_from (j + 1) more o))) ≤ rules_length more o
        → 2 * length (clauses_row (map (clause_of p) (cond b (j ∷ folds_from (j + 1) more o) (folds_from (j + 1) more o))))
        ≤ cond b (rule_length r + rules_length more o) (rules_length more o)
    go true ih =
        let a = length-append (clause_of p j) (clauses_row (map (clause_of p) (folds_from (j + 1) more o))) in
        let m = length-map (rule_at p j).body conjugate_number in
        let same = ap (λ (x : Rule). length x.body) (at_place (all_rules p) j e no_rule) in
        omega arith
    go false ih = ih

  -- An objective literal without entry has no bytes and three numbers.
  entry_length : 2 * length (entry_row p o) ≤ 6 + cond (has_entry p o) (5 + rules_length (all_rules p) o) 0
  unfolding clauses_of clauses_row folds_of
  entry_length = go (has_entry p o) (clauses_length 0 (all_rules p) refl) (entry_row_length p o) where
    go : (b : Bool) → 2 * length (clauses_row (map (clause_of p) (folds_from 0 (all_rules p) o))) ≤ rules_length (all_rules p) o
        → length (entry_row p o) ≡ 2 + length (clauses_row (cond b (map (clause_of p) (folds_of p o)) ([] ∷ [])))
        → 2 * length (entry_row p o) ≤ 6 + cond b (5 + rules_length (all_rules p) o) 0
    go true l e = omega arith
    go false l e = omega arith

entries_length_lem : (p : Program) (count o : ℕ) → 2 * length (joined (entry_rows_from p count o)) ≤ 6 * count + entries_length p count o
unfolding entry_rows_from entries_length joined
entries_length_lem p zero o = omega arith
entries_length_lem p (suc count) o =
    let a = length-append (entry_row p o) (joined (entry_rows_from p count (o + 1))) in
    let one = entry_length p o in
    let ih = entries_length_lem p count (o + 1) in
    omega arith

-- Half of 52,488 bytes, and three numbers for each of 513 objective literals.
pub entry_rows_bound : (p : Program) → Valid p → length (joined (entry_rows p)) ≤ 28000
unfolding dual_length
entry_rows_bound p v =
    let l = entries_length_lem p (judged p.atoms) 0 in
    let b = dual_bound p v in
    omega (arith, v.few_atoms)
