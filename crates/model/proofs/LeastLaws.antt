-- Laws of the least set, for T and P together: the step is monotone; the least set is closed, and in every closed set; it is the one such.
-- Assumes nothing.
use mathlib.Core.Path.{◌≡◌, sym, ◌∙◌}
use mathlib.Core.Bool.{Bool, true, false, cond}
use mathlib.Core.List.{List, [], ◌∷◌}
use mathlib.Core.Logic.{⊎_elim}
use Prim.Native.Nat.{ℕ, ◌<◌}
use lib.Dec.{T}
use lib.ListN.{length}
use Rattle.literals.specs.declared.bodies.BodyLiteral.{BodyLiteral}
use Rattle.literals.specs.declared.bodies.BodyLiteral.TheVariants.{Is, Undefined}
use Rattle.literals.specs.Numbering.{objective_number, default_negated}
use Rattle.literals.specs.BodyLiterals.{body_literal}
use Rattle.papers.specs.Program.{Rule}
use Rattle.papers.specs.Tests.{◌and◌, ◌or◌}
use Rattle.model.specs.Sets.{Set, has}
use Rattle.model.specs.LeastSet.{literal_holds, body_holds, supported, Reduct, step, least}
use Rattle.papers.proofs.TestLaws.{both, left, right, either, either_left, either_right, or_mono, and_mono}
use Rattle.model.proofs.SetLaws.{Sub, length_set_of, has_set_of, set_of_in, set_of_of, set_of_mono, sub_refl, sub_antisym}
use Rattle.model.proofs.Fixpoints.{up_sized, up_fixed, up_least}

-- ---- what holds in larger sets

module _ (undefined undefined' : Bool) (hu : T undefined → T undefined')
    {set set' negated negated' : Set} (hs : Sub set set') (hn : Sub negated negated') where
  pub literal_mono : (l : BodyLiteral) → T (literal_holds undefined set negated l) → T (literal_holds undefined' set' negated' l)
  unfolding literal_holds
  literal_mono (Is l) = go (default_negated l.0) (objective_number l.0) where
    go : (b : Bool) (o : ℕ) → T (cond b (has negated o) (has set o)) → T (cond b (has negated' o) (has set' o))
    go true o t = hn.at o t
    go false o t = hs.at o t
  literal_mono Undefined = hu

  pub body_mono : (body : List ℕ) → T (body_holds undefined set negated body) → T (body_holds undefined' set' negated' body)
  unfolding body_holds
  body_mono [] t = t
  body_mono (l ∷ more) t = and_mono _ _ _ _ (literal_mono (body_literal l)) (body_mono more) t

  pub supported_mono : (rules : List Rule) (o : ℕ) → T (supported undefined set negated rules o) → T (supported undefined' set' negated' rules o)
  unfolding supported
  supported_mono [] o t = t
  supported_mono (r ∷ more) o t =
      or_mono _ _ _ _ (and_mono _ _ _ _ (λ e. e) (body_mono r.body)) (supported_mono more o) t

-- ---- the step

-- Less seed, less allowed, fewer not(g), u no more often.
pub record Below (g g' : Reduct) : Type 0 where
  pub seed : Sub g.seed g'.seed
  pub allowed : Sub g.allowed g'.allowed
  pub negated : Sub g.negated g'.negated
  pub undefined : T g.undefined → T g'.undefined

pub below_refl : {g : Reduct} → Below g g
below_refl = record { seed = sub_refl; allowed = sub_refl; negated = sub_refl; undefined = λ u. u }

-- A closed set holds each allowed o that is a seed or heads a rule whose body holds.
pub record Closed (n : ℕ) (rules : List Rule) (g : Reduct) (set : Set) : Type 0 where
  pub seeds : (o : ℕ) → o < n → T (has g.allowed o) → T (has g.seed o) → T (has set o)
  pub heads : (o : ℕ) → o < n → T (has g.allowed o) → T (supported g.undefined set g.negated rules o) → T (has set o)

module _ (n : ℕ) (rules : List Rule) where
  pub step_mono : (g g' : Reduct) → Below g g' → (s s' : Set) → Sub s s' → Sub (step n rules g s) (step n rules g' s')
  unfolding step
  step_mono g g' h s s' k =
      set_of_mono n _ _
      (λ o. and_mono _ _ _ _ (h.allowed.at o) (or_mono _ _ _ _ (h.seed.at o) (supported_mono _ _ h.undefined k h.negated rules o)))

  pub step_length : (g : Reduct) (s : Set) → length (step n rules g s) ≡ n
  unfolding step
  step_length g s = length_set_of _ n

  module _ (g : Reduct) where
    -- The test of one step.
    unfoldable gives : Set → ℕ → Bool
    gives s o = has g.allowed o and (has g.seed o or supported g.undefined s g.negated rules o)

    pub has_step : (s : Set) (o : ℕ) → o < n
        → has (step n rules g s) o ≡ (has g.allowed o and (has g.seed o or supported g.undefined s g.negated rules o))
    unfolding step
    has_step s o h = has_set_of _ n o h

    step_self : (s s' : Set) → Sub s s' → Sub (step n rules g s) (step n rules g s')
    step_self = step_mono g g below_refl

    pub closed_sub : (s : Set) → Closed n rules g s → Sub (step n rules g s) s
    unfolding step gives
    closed_sub s c = record {
      at = λ o x.
          let k : (o < n) × T (gives s o) = set_of_in n (gives s) o x in
          let a : T (has g.allowed o) = left _ _ k.1 in
          ⊎_elim (c.seeds o k.0 a) (c.heads o k.0 a) (either _ _ (right _ _ k.1));
    }

    pub sub_closed : (s : Set) → Sub (step n rules g s) s → Closed n rules g s
    unfolding step gives
    sub_closed s h = record {
      seeds = λ o l a x. h.at o (set_of_of n (gives s) o l (both _ _ a (either_left _ _ x)));
      heads = λ o l a x. h.at o (set_of_of n (gives s) o l (both _ _ a (either_right _ _ x)));
    }

    -- ---- the least set

    pub least_length : length (least n rules g) ≡ n
    unfolding least
    least_length = up_sized n (step n rules g) (step_length g) step_self n

    pub least_fixed : step n rules g (least n rules g) ≡ least n rules g
    unfolding least
    least_fixed = up_fixed n (step n rules g) (step_length g) step_self

    -- "The least set holding": it is closed,
    pub least_closed : Closed n rules g (least n rules g)
    least_closed = sub_closed (least n rules g) (rw least_fixed sub_refl)

    -- and is in every closed set.
    pub least_in : (s : Set) → Closed n rules g s → Sub (least n rules g) s
    unfolding least
    least_in s c = up_least n (step n rules g) (step_length g) step_self s (closed_sub s c)

    -- A closed set that is in it is it, in whatever order it was filled.
    pub least_is : (s : Set) → length s ≡ n → Closed n rules g s → Sub s (least n rules g) → s ≡ least n rules g
    least_is s e c h = sub_antisym s (least n rules g) (e ∙ sym least_length) h (least_in s c)

  -- More seeds, more allowed, more not(g), u at least as often: a larger set.
  pub least_mono : (g g' : Reduct) → Below g g' → Sub (least n rules g) (least n rules g')
  least_mono g g' h =
      let larger = least n rules g' in
      least_in g larger (sub_closed g larger (rw (least_fixed g') at (step_mono g g' h larger larger sub_refl)))
