-- Where the folds of a literal hold: exactly where no rule of the literal has a body that holds, with each set replaced by the other's complement.
-- Assumes nothing.
use mathlib.Core.Path.{◌≡◌, refl, sym, ap, ap₂, ◌∙◌}
use mathlib.Core.Bool.{Bool, true, false, not, cond, not-not, true≢false}
use mathlib.Core.List.{List, [], ◌∷◌, map}
use Prim.Native.Nat.{ℕ, suc, ◌+◌, ◌*◌, ◌/◌, ◌%◌, ◌≤◌, ◌<◌}
use native.Mathlib.Omega.{arith}
use borrow.Author.Tests.{eqb-true, eqb-false, eq-eqb, ne_eqb}
use lib.Dec.{eqb}
use lib.ListN.{length, get_or}
use Rattle.literals.specs.declared.bodies.BodyLiteral.{BodyLiteral}
use Rattle.literals.specs.declared.bodies.BodyLiteral.TheVariants.{Is, Undefined}
use Rattle.literals.specs.Numbering.{default_conjugate, default_negated, objective_number, judged}
use Rattle.literals.specs.BodyLiterals.{body_literal, body_conjugate, conjugate_number, Below}
use Rattle.literals.proofs.NumberingLaws.{default_sum, default_same_objective}
use Rattle.literals.proofs.BodyLaws.{conjugate_read, listed_below, below_named}
use Rattle.papers.specs.Program.{Rule, Program, all_rules, no_rule}
use Rattle.papers.specs.Content.{is_among}
use Rattle.papers.specs.Valid.{All, All.none as nothing, All.each as each, ValidRule, Valid}
use Rattle.papers.proofs.Lists.{all_map, all_each}
use Rattle.papers.proofs.RuleLaws.{Fits, all_append, rules_fit}
use Rattle.dual.specs.Table.{Field, folds_from, folds_of, is_empty, is_fact, has_entry, dual}
use Rattle.dual.proofs.Folds.{FoldIn, folds_of_tell}
use Rattle.papers.specs.Tests.{◌and◌, ◌or◌}
use Rattle.model.specs.Sets.{Set, has, complement}
use Rattle.model.specs.LeastSet.{literal_holds, body_holds, supported}
use Rattle.model.specs.Falsity.{listed_by, some_holds, folds_hold}
use Rattle.papers.proofs.TestLaws.{not_and, not_or, or_true, true_and, false_and, false_or}
use Rattle.model.proofs.SetLaws.{has_complement}
use Rattle.model.proofs.Fields.{conjugates, listed_dual}

pub conjugate_negated : (l : ℕ) → default_negated (default_conjugate l) ≡ not (default_negated l)
conjugate_negated l = go (default_negated l) refl where
  go : (b : Bool) → default_negated l ≡ b → default_negated (default_conjugate l) ≡ not b
  go true e =
      let sum = default_sum l in
      let odd = eqb-true (l % 2) 1 e in
      ne_eqb (default_conjugate l % 2) 1 (λ q. omega arith)
  go false e =
      let sum = default_sum l in
      let even = eqb-false (l % 2) 1 e in
      eq-eqb (default_conjugate l % 2) 1 (omega arith)

-- ---- one literal, one body

module _ (n : ℕ) (few : n ≤ 0x7FFF) (set trues : Set) where
  -- The default conjugate holds exactly where the literal does not. That of u, which is u, does not hold where u does not fail.
  pub conjugate_holds : (b : BodyLiteral) → Below n b
      → literal_holds false trues (complement n set) (body_conjugate b) ≡ not (literal_holds true set (complement n trues) b)
  unfolding literal_holds body_conjugate Below
  conjugate_holds Undefined h = refl
  conjugate_holds (Is literal) h = rw (conjugate_negated literal.0, default_same_objective literal.0) (go (default_negated literal.0)) where
    go : (b : Bool) → cond (not b) (has (complement n set) (objective_number literal.0)) (has trues (objective_number literal.0))
        ≡ not (cond b (has (complement n trues) (objective_number literal.0)) (has set (objective_number literal.0)))
    go true = sym (ap not (has_complement n trues (objective_number literal.0) h) ∙ not-not (has trues (objective_number literal.0)))
    go false = has_complement n set (objective_number literal.0) h

  pub literal_conjugate : (l : ℕ) → Below n (body_literal l)
      → literal_holds false trues (complement n set) (body_literal (conjugate_number l)) ≡ not (literal_holds true set (complement n trues) (body_literal l))
  literal_conjugate l h = rw (conjugate_read l (below_named n l few h)) (conjugate_holds (body_literal l) h)

  -- Some default conjugate of a body's literals holds exactly where the body does not.
  pub body_conjugates : {body : List ℕ} → All (λ l. Below n (body_literal l)) body
      → some_holds trues (complement n set) (map conjugate_number body) ≡ not (body_holds true set (complement n trues) body)
  unfolding some_holds body_holds
  body_conjugates nothing = refl
  body_conjugates (each {a = l} {more = more} h rest) =
      ap₂ ◌or◌ (literal_conjugate l h) (body_conjugates rest)
      ∙ sym (not_and (literal_holds true set (complement n trues) (body_literal l)) (body_holds true set (complement n trues) more))

  -- ---- the folds of a head

  module _ (fields : List Field) (rules : List Rule) (o : ℕ) where
    -- Where each fold's field lists the conjugates of its rule, `later` being the rules from fold number j on.
    pub folds_fail : (j : ℕ) (later : List Rule) → ((i : ℕ) → i < length later → get_or rules (j + i) no_rule ≡ get_or later i no_rule)
        → All (λ k. listed_by fields k ≡ conjugates rules k) (folds_from j later o)
        → All (λ (r : Rule). All (λ l. Below n (body_literal l)) r.body) later
        → folds_hold fields trues (complement n set) (folds_from j later o) ≡ not (supported true set (complement n trues) later o)
    unfolding folds_from folds_hold supported
    folds_fail j [] at fine nothing = refl
    folds_fail j (r ∷ more) at fine (each h rest) =
        go (eqb r.head o) fine (folds_fail (j + 1) more (λ i l. let e : j + 1 + i ≡ j + suc i = omega arith in rw e (at (suc i) (omega arith)))) where
          here : get_or rules j no_rule ≡ r
          here = let e : j + 0 ≡ j = omega arith in rw e at (at 0 (omega arith))

          first : listed_by fields j ≡ conjugates rules j
              → some_holds trues (complement n set) (listed_by fields j) ≡ not (body_holds true set (complement n trues) r.body)
          first e = rw (e, here) (body_conjugates h)

          go : (b : Bool) → All (λ k. listed_by fields k ≡ conjugates rules k) (cond b (j ∷ folds_from (j + 1) more o) (folds_from (j + 1) more o))
              → (All (λ k. listed_by fields k ≡ conjugates rules k) (folds_from (j + 1) more o)
              → All (λ (q : Rule). All (λ l. Below n (body_literal l)) q.body) more
              → folds_hold fields trues (complement n set) (folds_from (j + 1) more o) ≡ not (supported true set (complement n trues) more o))
              → folds_hold fields trues (complement n set) (cond b (j ∷ folds_from (j + 1) more o) (folds_from (j + 1) more o))
              ≡ not (b and body_holds true set (complement n trues) r.body or supported true set (complement n trues) more o)
          go true (each e others) ih =
              rw (first e, ih others rest, true_and)
              (sym (not_or (body_holds true set (complement n trues) r.body) (supported true set (complement n trues) more o)))
          go false fine ih = rw (false_and, false_or) (ih fine rest)

-- ---- of a valid program

-- A rule's head is no abducible or its negation.
abbrev Free : List ℕ → Rule → Type 0
Free abducibles r = is_among abducibles (r.head / 2) ≡ false

-- An atom past all of a list is not among it.
past_all : (n : ℕ) {l : List ℕ} → All (◌< n) l → is_among l n ≡ false
unfolding is_among
past_all n nothing = refl
past_all n (each {a = a} {more = more} h rest) = rw (ne_eqb a n (omega arith)) (past_all n rest)

free_unsupported : (abducibles : List ℕ) (undefined : Bool) (set negated : Set) (o : ℕ) → is_among abducibles (o / 2) ≡ true
    → {rules : List Rule} → All (Free abducibles) rules → supported undefined set negated rules o ≡ false
unfolding supported
free_unsupported abducibles undefined set negated o e nothing = refl
free_unsupported abducibles undefined set negated o e (each {a = r} {more = more} h rest) =
    rw (ne_eqb r.head o (λ q. true≢false (sym (rw (← q) at e) ∙ h)), false_and, false_or)
    (free_unsupported abducibles undefined set negated o e rest)

module _ (p : Program) (v : Valid p) where
  rules_free : All (Free p.abducibles) (all_rules p)
  unfolding all_rules
  rules_free =
      all_append
      (all_each (λ (r : Rule) (w : ValidRule p.atoms p.abducibles r). w.free) v.rules)
      (all_map _ (λ (body : List ℕ) w. denial_free) v.integrity) where
        denial_free : is_among p.abducibles (2 * p.atoms / 2) ≡ false
        denial_free = let e : 2 * p.atoms / 2 ≡ p.atoms = omega arith in rw e (past_all p.atoms v.abducibles_listed)

  rules_listed : All (λ (r : Rule). All (λ l. Below (judged p.atoms) (body_literal l)) r.body) (all_rules p)
  rules_listed = all_each (λ (r : Rule) (w : Fits p.atoms r). all_each (listed_below p.atoms) w.body.listed) (rules_fit p v)

  -- "Falsity read from the dual": the folds of o hold exactly where no rule supports it.
  pub folds_dual : (set trues : Set) (o : ℕ) → o < judged p.atoms → has_entry p o ≡ true
      → folds_hold (dual p) trues (complement (judged p.atoms) set) (folds_of p o)
      ≡ not (supported true set (complement (judged p.atoms) trues) (all_rules p) o)
  unfolding folds_of
  folds_dual set trues o h e =
      folds_fail (judged p.atoms) (omega (arith, v.few_atoms)) set trues (dual p) (all_rules p) o 0 (all_rules p)
      (λ i l. let z : 0 + i ≡ i = omega arith in rw z)
      (all_each (λ (k : ℕ) (f : FoldIn (all_rules p) o k). listed_dual p o k e f h) (folds_of_tell p o))
      rules_listed

  -- No rule supports an abducible or its negation.
  pub abducible_unsupported : (undefined : Bool) (set negated : Set) (o : ℕ) → is_among p.abducibles (o / 2) ≡ true
      → supported undefined set negated (all_rules p) o ≡ false
  abducible_unsupported undefined set negated o e = free_unsupported p.abducibles undefined set negated o e rules_free

-- A fact supports its head.
pub fact_supported : (rules : List Rule) (undefined : Bool) (set negated : Set) (o : ℕ) → is_fact rules o ≡ true
    → supported undefined set negated rules o ≡ true
unfolding is_fact is_empty supported body_holds
fact_supported [] undefined set negated o e = e
fact_supported (r ∷ more) undefined set negated o e = go (eqb r.head o) r.body e (fact_supported more undefined set negated o) where
  go : (b : Bool) (body : List ℕ) → cond b (cond (is_empty body) true (is_fact more o)) (is_fact more o) ≡ true
      → (is_fact more o ≡ true → supported undefined set negated more o ≡ true)
      → (b and body_holds undefined set negated body or supported undefined set negated more o) ≡ true
  go true [] q ih = unfold ◌and◌ in unfold ◌or◌ in refl
  go true (l ∷ body) q ih = rw (ih q) (or_true (true and body_holds undefined set negated (l ∷ body)))
  go false body q ih = rw (ih q) (or_true (false and body_holds undefined set negated body))
