-- One operator for T and P: the least set that holds each allowed o that is a seed or heads a rule whose objective literals are in the
-- set, whose not(g) have g in `negated`, and which has no u unless `undefined` says that it holds.
use Rattle.std.specs.Prelude.{Bool, true, false, cond, List, [], ◌∷◌, ℕ, eqb}
use Rattle.literals.specs.declared.bodies.BodyLiteral.{BodyLiteral}
use Rattle.literals.specs.declared.bodies.BodyLiteral.TheVariants.{Is, Undefined}
use Rattle.literals.specs.Numbering.{objective_number, default_negated}
use Rattle.literals.specs.BodyLiterals.{body_literal}
use Rattle.papers.specs.Program.{Rule}
use Rattle.papers.specs.Tests.{◌and◌, ◌or◌}
use Rattle.model.specs.Sets.{Set, has, set_of, empty}
use Rattle.model.specs.Iteration.{iterate}

-- A body literal holds: o where o is in `set`, not(g) where g is in `negated`, and u where `undefined` says so.
unfoldable pub literal_holds : Bool → Set → Set → BodyLiteral → Bool
literal_holds undefined set negated (Is l) = cond (default_negated l.0) (has negated (objective_number l.0)) (has set (objective_number l.0))
literal_holds undefined set negated Undefined = undefined

-- Each literal of a body holds: "an empty body .. is true".
unfoldable pub body_holds : Bool → Set → Set → List ℕ → Bool
body_holds undefined set negated [] = true
body_holds undefined set negated (l ∷ more) = literal_holds undefined set negated (body_literal l) and body_holds undefined set negated more

-- o heads a rule whose body holds.
unfoldable pub supported : Bool → Set → Set → List Rule → ℕ → Bool
supported undefined set negated [] o = false
supported undefined set negated (r ∷ more) o =
    let body = body_holds undefined set negated r.body in
    eqb r.head o and body or supported undefined set negated more o

-- What fixes a least set: its seed, what is allowed in it, the g whose not(g) hold, and whether u holds.
pub record Reduct : Type 0 where
  pub seed : Set
  pub allowed : Set
  pub negated : Set
  pub undefined : Bool

-- One step: the allowed that are seeds, or that this set supports.
unfoldable pub step : ℕ → List Rule → Reduct → Set → Set
step n rules g set = set_of n (λ o. has g.allowed o and (has g.seed o or supported g.undefined set g.negated rules o))

-- The least set of n flags: the step from the empty set, n times.
unfoldable pub least : ℕ → List Rule → Reduct → Set
least n rules g = iterate n (step n rules g) (empty n)
