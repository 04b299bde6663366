-- A least set may be filled from more than its seed: from the seed and any part of the least set together. So T(j+1) may be filled from
-- T(j) and the true abducible literals, for nothing that is true is given up.
-- Assumes nothing.
use mathlib.Core.Path.{◌≡◌, sym, ◌∙◌}
use mathlib.Core.List.{List}
use mathlib.Core.Logic.{⊎_elim}
use Prim.Native.Nat.{ℕ, ◌<◌}
use lib.Dec.{T}
use Rattle.literals.specs.Numbering.{judged}
use Rattle.papers.specs.Program.{Rule, Program, all_rules}
use Rattle.papers.specs.Tests.{◌or◌}
use Rattle.model.specs.Sets.{Set, has, set_of}
use Rattle.model.specs.Iteration.{iterate}
use Rattle.model.specs.Scenarios.{true_abducibles}
use Rattle.model.specs.LeastSet.{Reduct, least}
use Rattle.model.specs.Model.{true_reduct, true_set, successor, interpretation_at}
use Rattle.papers.proofs.TestLaws.{either, either_left}
use Rattle.model.proofs.SetLaws.{Sub, set_of_in, set_of_of, sub_antisym}
use Rattle.model.proofs.LeastLaws.{least_length, least_closed, least_in}
use Rattle.model.proofs.Rounds.{increasing}

-- The same with another seed.
abbrev pub seeded : Reduct → Set → Reduct
seeded g seed = record { seed = seed; allowed = g.allowed; negated = g.negated; undefined = g.undefined }

-- Those below n that are in one of two sets.
unfoldable pub joined : ℕ → Set → Set → Set
joined n s t = set_of n (λ o. has s o or has t o)

module _ (n : ℕ) (rules : List Rule) (g : Reduct) where
  -- From a seed that holds the first and whose allowed members are in the least set, the least set is the same.
  pub warm : (seed : Set) → ((o : ℕ) → o < n → T (has g.seed o) → T (has seed o))
      → ((o : ℕ) → o < n → T (has g.allowed o) → T (has seed o) → T (has (least n rules g) o))
      → least n rules (seeded g seed) ≡ least n rules g
  warm seed from to =
      let c = least_closed n rules g in
      let d = least_closed n rules (seeded g seed) in
      sub_antisym (least n rules (seeded g seed)) (least n rules g) (least_length n rules (seeded g seed) ∙ sym (least_length n rules g))
      (least_in n rules (seeded g seed) (least n rules g) (record { seeds = to; heads = c.heads }))
      (least_in n rules g (least n rules (seeded g seed)) (record { seeds = λ o h a x. d.seeds o h a (from o h x); heads = d.heads }))

  -- From the seed and a part of the least set together.
  pub warm_joined : (part : Set) → Sub part (least n rules g) → least n rules (seeded g (joined n g.seed part)) ≡ least n rules g
  unfolding joined
  warm_joined part h =
      warm (joined n g.seed part)
      (λ o l x. set_of_of n (λ q. has g.seed q or has part q) o l (either_left _ _ x))
      (λ o l a x.
      ⊎_elim ((least_closed n rules g).seeds o l a) (h.at o)
      (either (has g.seed o) (has part o) (set_of_in n (λ q. has g.seed q or has part q) o x).1))

module _ (p : Program) (s : ℕ) where
  -- T, from any part of it,
  pub true_warm : (falses part : Set) → Sub part (true_set p s falses)
      → least (judged p.atoms) (all_rules p) (seeded (true_reduct p s falses) (joined (judged p.atoms) (true_abducibles p s) part))
      ≡ true_set p s falses
  unfolding true_set true_reduct
  true_warm falses part h = warm_joined (judged p.atoms) (all_rules p) (true_reduct p s falses) part h

  -- and T(j) is a part of T(j+1), by F(j).
  pub true_grows : (j : ℕ) → Sub (interpretation_at p s j).trues (true_set p s (interpretation_at p s j).falses)
  unfolding interpretation_at iterate successor
  true_grows j = (increasing p s j).trues
