-- The constant u "never holds and never fails" (Definition 2.6): a body with it holds in no T, in P it blocks no rule, and from the dual a listed u
-- never holds.
-- Assumes nothing.
use mathlib.Core.Path.{◌≡◌, refl, ap}
use mathlib.Core.Bool.{Bool, true, false}
use mathlib.Core.List.{List, [], ◌∷◌, ◌++◌}
use Prim.Native.Nat.{ℕ}
use Rattle.literals.specs.BodyLiterals.{body_literal}
use Rattle.literals.proofs.BodyLaws.{undefined_read}
use Rattle.papers.specs.Program.{Program}
use Rattle.papers.specs.Tests.{◌and◌, ◌or◌}
use Rattle.papers.proofs.TestLaws.{false_and, true_and, false_or}
use Rattle.model.specs.Sets.{Set}
use Rattle.model.specs.LeastSet.{literal_holds, body_holds}
use Rattle.model.specs.Model.{true_reduct, possible_reduct}
use Rattle.model.specs.Falsity.{some_holds}

and_false : (b : Bool) → (b and false) ≡ false
unfolding ◌and◌
and_false true = refl
and_false false = refl

-- What u does in a body is what `undefined` says.
undefined_holds : (undefined : Bool) (set negated : Set) → literal_holds undefined set negated (body_literal 0xFFFF) ≡ undefined
unfolding literal_holds
undefined_holds undefined set negated = rw undefined_read

module _ (set negated : Set) (after : List ℕ) where
  body_barred : (before : List ℕ) → body_holds false set negated (before ++ 0xFFFF ∷ after) ≡ false
  unfolding body_holds
  body_barred [] = rw (undefined_holds false set negated) (false_and (body_holds false set negated after))
  body_barred (l ∷ more) = rw (body_barred more) (and_false (literal_holds false set negated (body_literal l)))

  body_unmoved : (before : List ℕ) → body_holds true set negated (before ++ 0xFFFF ∷ after) ≡ body_holds true set negated (before ++ after)
  unfolding body_holds
  body_unmoved [] = rw (undefined_holds true set negated) (true_and (body_holds true set negated after))
  body_unmoved (l ∷ more) = ap (λ (b : Bool). literal_holds true set negated (body_literal l) and b) (body_unmoved more)

  -- "From the dual": a listed u adds nothing to what is listed.
  pub listed_never_holds : (before : List ℕ) → some_holds set negated (before ++ 0xFFFF ∷ after) ≡ some_holds set negated (before ++ after)
  unfolding some_holds
  listed_never_holds [] = rw (undefined_holds false set negated) (false_or (some_holds set negated after))
  listed_never_holds (l ∷ more) = ap (λ (b : Bool). literal_holds false set negated (body_literal l) or b) (listed_never_holds more)

module _ (p : Program) (s : ℕ) (set negated : Set) (before after : List ℕ) where
  -- "It never holds": no T has a rule with u in its body.
  pub never_holds : (falses : Set) → body_holds (true_reduct p s falses).undefined set negated (before ++ 0xFFFF ∷ after) ≡ false
  unfolding true_reduct
  never_holds falses = body_barred set negated after before

  -- "and never fails .. : in P it blocks no rule": the body holds as without it.
  pub blocks_no_rule : (trues : Set) → body_holds (possible_reduct p s trues).undefined set negated (before ++ 0xFFFF ∷ after)
      ≡ body_holds (possible_reduct p s trues).undefined set negated (before ++ after)
  unfolding possible_reduct
  blocks_no_rule trues = body_unmoved set negated after before
