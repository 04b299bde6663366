-- A rule, by its fold number, that supports its head.
-- Assumes nothing.
use mathlib.Core.Path.{◌≡◌}
use mathlib.Core.Bool.{Bool}
use mathlib.Core.List.{List, [], ◌∷◌}
use mathlib.Core.Logic.{⊎_elim}
use Prim.Native.Nat.{ℕ, zero, suc, ◌<◌}
use native.Mathlib.Omega.{arith}
use lib.Dec.{T, eqb→eq, eqb_refl}
use lib.ListN.{length, get_or}
use Rattle.papers.specs.Program.{Rule, no_rule}
use Rattle.model.specs.Sets.{Set}
use Rattle.model.specs.LeastSet.{body_holds, supported}
use Rattle.papers.proofs.TestLaws.{both, left, right, either, either_left, either_right}

-- o "heads a rule whose" body holds: the rule with fold number `index`.
pub record Supports (undefined : Bool) (set negated : Set) (rules : List Rule) (o index : ℕ) : Type 0 where
  pub below : index < length rules
  pub heads : (get_or rules index no_rule).head ≡ o
  pub body : T (body_holds undefined set negated (get_or rules index no_rule).body)

module _ (undefined : Bool) (set negated : Set) where
  supports_later : (r : Rule) (more : List Rule) (o : ℕ) → ((i : ℕ) × Supports undefined set negated more o i)
      → ((i : ℕ) × Supports undefined set negated (r ∷ more) o i)
  supports_later r more o s = (suc s.0, record { below = omega arith; heads = s.1.heads; body = s.1.body })

  pub supported_tells : (rules : List Rule) (o : ℕ) → T (supported undefined set negated rules o) → ((i : ℕ) × Supports undefined set negated rules o i)
  unfolding supported
  supported_tells [] o t = absurd t
  supported_tells (r ∷ more) o t =
      ⊎_elim
      (λ k. (0, record { below = omega arith; heads = eqb→eq r.head o (left _ _ k); body = right _ _ k }))
      (λ k. supports_later r more o (supported_tells more o k))
      (either _ _ t)

  pub supported_is : (rules : List Rule) (o i : ℕ) → Supports undefined set negated rules o i → T (supported undefined set negated rules o)
  unfolding supported
  supported_is [] o i s = absurd (omega arith)
  supported_is (r ∷ more) o zero s = either_left _ _ (both _ _ (rw s.heads (eqb_refl o)) s.body)
  supported_is (r ∷ more) o (suc i) s =
      either_right _ _ (supported_is more o i (record { below = omega arith; heads = s.heads; body = s.body }))
