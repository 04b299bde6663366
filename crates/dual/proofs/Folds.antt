-- Laws of the folds, the facts and the rules' lengths by head: what each list tells of the rules, and of one list after another.
-- Assumes nothing.
use mathlib.Core.Path.{◌≡◌, refl}
use mathlib.Core.Bool.{Bool, true, false, cond, true≢false}
use mathlib.Core.List.{List, [], ◌∷◌, ◌++◌, map}
use mathlib.Core.Logic.{⊎_elim}
use Prim.Native.Nat.{ℕ, zero, suc, ◌+◌, ◌-◌, ◌≤◌, ◌<◌}
use native.Mathlib.Omega.{arith}
use borrow.Author.Tests.{eqb-true, eq-eqb}
use lib.Dec.{eqb}
use lib.ListN.{length, get_or, drop}
use Rattle.literals.specs.BodyLiterals.{conjugate_number}
use Rattle.literals.proofs.BodyLaws.{conjugate_number_twice}
use Rattle.papers.specs.Program.{Rule, Program, all_rules, no_rule}
use Rattle.papers.specs.Content.{is_among}
use Rattle.papers.specs.Valid.{All, Rising, InBody, Valid}
use Rattle.papers.specs.Valid.{All.none as nothing, All.each as each, Rising.none as flat, Rising.next as above}
use Rattle.papers.proofs.Lists.{all_each}
use Rattle.papers.proofs.RuleLaws.{rule_fitting}
use Rattle.dual.specs.Table.{folds_from, folds_of, is_empty, is_fact, fold_field}
use Rattle.dual.specs.TableEncoding.{numbers_of}
use Rattle.dual.specs.Length.{rule_length, rules_length}

-- ---- the folds of a head

-- k is the fold number of a rule with head o, where the rules have fold numbers from j on.
pub record FoldOf (j : ℕ) (rules : List Rule) (o k : ℕ) : Type 0 where
  pub from : j ≤ k
  pub below : k < j + length rules
  pub heads : (get_or rules (k - j) no_rule).head ≡ o

module _ (j : ℕ) (r : Rule) (more : List Rule) (o : ℕ) where
  fold_here : r.head ≡ o → FoldOf j (r ∷ more) o j
  fold_here e =
      let z : j - j ≡ 0 = omega arith in
      record { from = omega arith; below = omega arith; heads = rw z e }

  fold_later : (k : ℕ) → FoldOf (j + 1) more o k → FoldOf j (r ∷ more) o k
  fold_later k f =
      let s : k - j ≡ suc (k - (j + 1)) = omega arith in
      record { from = omega arith; below = omega arith; heads = rw s f.heads }

pub folds_tell : (j : ℕ) (rules : List Rule) (o : ℕ) → All (FoldOf j rules o) (folds_from j rules o)
unfolding folds_from
folds_tell j [] o = nothing
folds_tell j (r ∷ more) o = go (eqb r.head o) refl (all_each (fold_later j r more o) (folds_tell (j + 1) more o)) where
  go : (b : Bool) → eqb r.head o ≡ b → All (FoldOf j (r ∷ more) o) (folds_from (j + 1) more o)
      → All (FoldOf j (r ∷ more) o) (cond b (j ∷ folds_from (j + 1) more o) (folds_from (j + 1) more o))
  go true t later = each (fold_here j r more o (eqb-true _ _ t)) later
  go false t later = later

-- "Rising."
rising_from_lem : {least from : ℕ} {l : List ℕ} → from ≤ least → Rising least l → Rising from l
rising_from_lem h flat = flat
rising_from_lem {from = from} h (above {a} g rest) = let w : from ≤ a = omega arith in above w rest

pub folds_rising : (j : ℕ) (rules : List Rule) (o : ℕ) → Rising j (folds_from j rules o)
unfolding folds_from
folds_rising j [] o = flat
folds_rising j (r ∷ more) o = go (eqb r.head o) (folds_rising (j + 1) more o) where
  go : (b : Bool) → Rising (j + 1) (folds_from (j + 1) more o) → Rising j (cond b (j ∷ folds_from (j + 1) more o) (folds_from (j + 1) more o))
  go true later = let w : j ≤ j = omega arith in above w later
  go false later = rising_from_lem (omega arith) later

-- Each rule with head o is among them,
among_later : (x k : ℕ) (l : List ℕ) → is_among l k ≡ true → is_among (x ∷ l) k ≡ true
unfolding is_among
among_later x k l e = go (eqb x k) where
  go : (b : Bool) → cond b true (is_among l k) ≡ true
  go true = refl
  go false = e

pub folds_among : (j : ℕ) (rules : List Rule) (o i : ℕ) → i < length rules → (get_or rules i no_rule).head ≡ o → is_among (folds_from j rules o) (j + i) ≡ true
unfolding folds_from
folds_among j [] o i h e = absurd (omega arith)
folds_among j (r ∷ more) o zero h e = rw (eq-eqb _ _ e) (unfold is_among in rw (eq-eqb j (j + 0) (omega arith)))
folds_among j (r ∷ more) o (suc i) h e =
    let q : j + suc i ≡ j + 1 + i = omega arith in
    rw q (go (eqb r.head o) (folds_among (j + 1) more o i (omega arith) e)) where
      go : (b : Bool) → is_among (folds_from (j + 1) more o) (j + 1 + i) ≡ true
          → is_among (cond b (j ∷ folds_from (j + 1) more o) (folds_from (j + 1) more o)) (j + 1 + i) ≡ true
      go true ih = among_later j (j + 1 + i) (folds_from (j + 1) more o) ih
      go false ih = ih

-- and nothing else is.
pub among_all : {P : ℕ → Type 0} {l : List ℕ} → All P l → (k : ℕ) → is_among l k ≡ true → P k
unfolding is_among
among_all nothing k e = absurd (true≢false cc)
among_all {P} (each {a} {more} p rest) k e = go (eqb a k) refl e (among_all rest k) where
  go : (b : Bool) → eqb a k ≡ b → cond b true (is_among more k) ≡ true → (is_among more k ≡ true → P k) → P k
  go true t e ih = let q : a ≡ k = eqb-true a k t in rw q at p
  go false t e ih = ih e

-- ---- the folds of a program's literal

-- k is the fold number of a rule with head o.
pub record FoldIn (rules : List Rule) (o k : ℕ) : Type 0 where
  pub below : k < length rules
  pub heads : (get_or rules k no_rule).head ≡ o

fold_in : (rules : List Rule) (o k : ℕ) → FoldOf 0 rules o k → FoldIn rules o k
fold_in rules o k f =
    let z : k - 0 ≡ k = omega arith in
    record { below = omega arith; heads = rw z at f.heads }

module _ (p : Program) (o : ℕ) where
  pub folds_of_tell : All (FoldIn (all_rules p) o) (folds_of p o)
  unfolding folds_of
  folds_of_tell = all_each (fold_in (all_rules p) o) (folds_tell 0 (all_rules p) o)

  pub folds_of_rising : Rising 0 (folds_of p o)
  unfolding folds_of
  folds_of_rising = folds_rising 0 (all_rules p) o

  pub folds_of_among : (k : ℕ) → FoldIn (all_rules p) o k → is_among (folds_of p o) k ≡ true
  unfolding folds_of
  folds_of_among k f =
      let z : 0 + k ≡ k = omega arith in
      rw z at (folds_among 0 (all_rules p) o k f.below f.heads)

-- ---- facts

-- The rule at an index is a fact for o.
pub record FactAt (rules : List Rule) (o i : ℕ) : Type 0 where
  pub below : i < length rules
  pub heads : (get_or rules i no_rule).head ≡ o
  pub empty : (get_or rules i no_rule).body ≡ []

-- Some rule is.
pub record SomeFact (rules : List Rule) (o : ℕ) : Type 0 where
  pub index : ℕ
  pub fact : FactAt rules o index

empty_is : (l : List ℕ) → is_empty l ≡ true → l ≡ []
unfolding is_empty
empty_is [] e = refl
empty_is (x ∷ more) e = absurd (true≢false cc)

some_later : (r : Rule) (more : List Rule) (o : ℕ) → SomeFact more o → SomeFact (r ∷ more) o
some_later r more o f = record {
  index = suc f.index;
  fact = record { below = omega arith; heads = f.fact.heads; empty = f.fact.empty };
}

pub fact_tells : (rules : List Rule) (o : ℕ) → is_fact rules o ≡ true → SomeFact rules o
unfolding is_fact
fact_tells [] o e = absurd (true≢false cc)
fact_tells (r ∷ more) o e = go (eqb r.head o) refl (is_empty r.body) refl e (λ f. some_later r more o (fact_tells more o f)) where
  go : (a : Bool) → eqb r.head o ≡ a → (b : Bool) → is_empty r.body ≡ b → cond a (cond b true (is_fact more o)) (is_fact more o) ≡ true
      → (is_fact more o ≡ true → SomeFact (r ∷ more) o) → SomeFact (r ∷ more) o
  go true s true t e later = record {
    index = 0;
    fact = record { below = omega arith; heads = eqb-true _ _ s; empty = empty_is _ t };
  }
  go true s false t e later = later e
  go false s b t e later = later e

pub fact_is : (rules : List Rule) (o i : ℕ) → FactAt rules o i → is_fact rules o ≡ true
unfolding is_fact
fact_is [] o i f = absurd (omega arith)
fact_is (r ∷ more) o zero f = rw (eq-eqb _ _ f.heads, f.empty) (unfold is_empty in refl)
fact_is (r ∷ more) o (suc i) f =
    go (eqb r.head o) (is_empty r.body) (fact_is more o i (record { below = omega arith; heads = f.heads; empty = f.empty })) where
      go : (a b : Bool) → is_fact more o ≡ true → cond a (cond b true (is_fact more o)) (is_fact more o) ≡ true
      go true true ih = refl
      go true false ih = ih
      go false b ih = ih

-- ---- one list of rules after another

pub folds_append : (j : ℕ) (a b : List Rule) (o : ℕ) → folds_from j (a ++ b) o ≡ folds_from j a o ++ folds_from (j + length a) b o
unfolding folds_from
folds_append j [] b o = let z : j + 0 ≡ j = omega arith in rw z
folds_append j (r ∷ more) b o =
    let q : j + suc (length more) ≡ j + 1 + length more = omega arith in
    rw (q, folds_append (j + 1) more b o) (go (eqb r.head o) (folds_from (j + 1) more o) (folds_from (j + 1 + length more) b o)) where
      go : (t : Bool) (x y : List ℕ) → cond t (j ∷ x ++ y) (x ++ y) ≡ cond t (j ∷ x) x ++ y
      go true x y = refl
      go false x y = refl

pub fact_append : (a b : List Rule) (o : ℕ) → is_fact (a ++ b) o ≡ cond (is_fact a o) true (is_fact b o)
unfolding is_fact
fact_append [] b o = refl
fact_append (r ∷ more) b o = rw (fact_append more b o) (go (eqb r.head o) (is_empty r.body) (is_fact more o) (is_fact b o)) where
  go : (s t x y : Bool) → cond s (cond t true (cond x true y)) (cond x true y) ≡ cond (cond s (cond t true x) x) true y
  go true true x y = refl
  go true false x y = refl
  go false t x y = refl

pub rules_append : (a b : List Rule) (o : ℕ) → rules_length (a ++ b) o ≡ rules_length a o + rules_length b o
unfolding rules_length
rules_append [] b o = omega arith
rules_append (r ∷ more) b o = rw (rules_append more b o) (go (eqb r.head o) (rule_length r) (rules_length more o) (rules_length b o)) where
  go : (t : Bool) (n x y : ℕ) → cond t (n + (x + y)) (x + y) ≡ cond t (n + x) x + y
  go true n x y = omega arith
  go false n x y = refl

-- ---- a fold's field

-- FFFE, whose conjugate would be read as u, stands in no body.
conjugates_undone : (n : ℕ) → n ≤ 256 → {l : List ℕ} → All (InBody n) l → map conjugate_number (map conjugate_number l) ≡ l
conjugates_undone n few nothing = refl
conjugates_undone n few (each {a = x} h rest) =
    let here = conjugate_number_twice x (λ e. ⊎_elim (λ k. absurd (omega arith)) (λ k. absurd (omega arith)) h) in
    let ih = conjugates_undone n few rest in
    cc

-- It tells its rule's body: the default conjugates of what it lists, in order, u for u.
pub fold_tells_body : (p : Program) → Valid p → (k : ℕ) → k < length (all_rules p)
    → map conjugate_number (drop 1 (numbers_of (fold_field (all_rules p) k))) ≡ (get_or (all_rules p) k no_rule).body
unfolding fold_field
fold_tells_body p v k h = conjugates_undone p.atoms v.few_atoms (rule_fitting p v k h).body.listed
