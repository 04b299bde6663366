-- A least set by parts: where no rule of the first asks for a head of the second, it is filled by the first alone, and from there by the second.
-- Assumes nothing.
use mathlib.Core.Path.{◌≡◌, refl, sym, ap, ◌∙◌}
use mathlib.Core.Bool.{Bool, true, false, cond}
use mathlib.Core.List.{List, [], ◌∷◌, ◌++◌}
use mathlib.Core.Logic.{◌⊎◌, ⊎_elim}
use Prim.Native.Nat.{ℕ, suc, ◌*◌, ◌/◌, ◌%◌, ◌<◌}
use native.Mathlib.Omega.{arith}
use borrow.Author.Tests.{eqb-false}
use lib.Dec.{T, eqb}
use lib.ListN.{length, get_or}
use Rattle.literals.specs.Numbering.{default_negated}
use Rattle.literals.specs.BodyLiterals.{body_literal}
use Rattle.literals.proofs.BodyLaws.{body_cases}
use Rattle.papers.specs.Program.{Rule, no_rule}
use Rattle.papers.specs.Tests.{◌and◌, ◌or◌}
use Rattle.model.specs.Sets.{Set, has}
use Rattle.model.specs.LeastSet.{literal_holds, body_holds, supported, Reduct, least}
use Rattle.papers.proofs.TestLaws.{right, and_mono, either, either_left, either_right, or_assoc, false_or}
use Rattle.model.proofs.SetLaws.{has_within, sub_antisym}
use Rattle.model.proofs.LeastLaws.{Closed, has_step, least_length, least_fixed, least_closed, least_in}
use Rattle.model.proofs.Support.{supported_tells, supported_is}
use Rattle.model.proofs.WarmStart.{seeded}

-- No rule of the first asks for a head of the second.
pub record ApartRules (first second : List Rule) : Type 0 where
  pub apart : (i j k : ℕ) → i < length first → j < length second → k < length (get_or first i no_rule).body
      → get_or (get_or first i no_rule).body k 0 ≡ 2 * (get_or second j no_rule).head → ⊥

-- ---- what holds in a smaller set

module _ (undefined : Bool) (set less negated : Set) where
  -- not(g) holds in it too, u as before, and o where it is in it.
  literal_kept : (l : ℕ) → ((o : ℕ) → l ≡ 2 * o → T (has set o) → T (has less o))
      → T (literal_holds undefined set negated (body_literal l)) → T (literal_holds undefined less negated (body_literal l))
  unfolding literal_holds
  literal_kept =
      body_cases
      (λ l b. ((o : ℕ) → l ≡ 2 * o → T (has set o) → T (has less o)) → T (literal_holds undefined set negated b) → T (literal_holds undefined less negated b))
      (λ f t. t)
      (λ l ne f. go l f (default_negated l) refl) where
        go : (l : ℕ) → ((o : ℕ) → l ≡ 2 * o → T (has set o) → T (has less o)) → (b : Bool) → eqb (l % 2) 1 ≡ b
            → T (cond b (has negated (l / 2)) (has set (l / 2))) → T (cond b (has negated (l / 2)) (has less (l / 2)))
        go l f true e t = t
        go l f false e t = let ne = eqb-false (l % 2) 1 e in f (l / 2) (omega arith) t

  body_kept : (body : List ℕ) → ((k o : ℕ) → k < length body → get_or body k 0 ≡ 2 * o → T (has set o) → T (has less o))
      → T (body_holds undefined set negated body) → T (body_holds undefined less negated body)
  unfolding body_holds
  body_kept [] f t = t
  body_kept (l ∷ more) f t =
      and_mono _ _ _ _
      (literal_kept l (λ o e. f 0 o (omega arith) e))
      (body_kept more (λ k o h e. f (suc k) o (omega arith) e))
      t

-- ---- two lists of rules

module _ (undefined : Bool) (set negated : Set) where
  supported_append : (first second : List Rule) (o : ℕ)
      → supported undefined set negated (first ++ second) o ≡ (supported undefined set negated first o or supported undefined set negated second o)
  unfolding supported
  supported_append [] second o = sym (false_or (supported undefined set negated second o))
  supported_append (r ∷ more) second o =
      let here = eqb r.head o and body_holds undefined set negated r.body in
      ap (λ (b : Bool). here or b) (supported_append more second o)
      ∙ sym (or_assoc here (supported undefined set negated more o) (supported undefined set negated second o))

module _ (n : ℕ) (first second : List Rule) (g : Reduct) (a : ApartRules first second) where
  -- What the first bring, and what the second add.
  abbrev fore : Set
  fore = least n first g

  abbrev all : Set
  all = least n second (seeded g fore)

  -- What is in, is by the first or heads a rule of the second.
  in_either : (o : ℕ) → T (has all o) → T (has fore o) ⊎ T (supported g.undefined all g.negated second o)
  in_either o t =
      let w = has_within all o t in
      let l = least_length n second (seeded g fore) in
      let e = ap (λ (s : Set). has s o) (sym (least_fixed n second (seeded g fore))) ∙ has_step n second (seeded g fore) all o (omega arith) in
      either _ _ (right _ _ (rw e at t))

  -- The first ask only for what they brought.
  first_supported : (o : ℕ) → T (supported g.undefined all g.negated first o) → T (supported g.undefined fore g.negated first o)
  first_supported o t =
      let s = supported_tells g.undefined all g.negated first o t in
      supported_is g.undefined fore g.negated first o s.0
      (record {
        below = s.1.below;
        heads = s.1.heads;
        body = body_kept g.undefined all fore g.negated (get_or first s.0 no_rule).body
            (λ k q h e x.
            ⊎_elim
            (λ y. y)
            (λ y.
            let b = supported_tells g.undefined all g.negated second q y in
            absurd (a.apart s.0 b.0 k s.1.below b.1.below h (e ∙ ap (λ (z : ℕ). 2 * z) (sym b.1.heads))))
            (in_either q x))
            s.1.body;
      })

  all_closed : Closed n (first ++ second) g all
  all_closed =
      let c = least_closed n first g in
      let d = least_closed n second (seeded g fore) in
      record {
        seeds = λ o h m x. d.seeds o h m (c.seeds o h m x);
        heads = λ o h m x.
            ⊎_elim
            (λ y. d.seeds o h m (c.heads o h m (first_supported o y)))
            (d.heads o h m)
            (either _ _ (rw (supported_append g.undefined all g.negated first second o) at x));
      }

  pub least_parts : least n (first ++ second) g ≡ least n second (seeded g (least n first g))
  least_parts =
      let both = least n (first ++ second) g in
      let c = least_closed n (first ++ second) g in
      let from = least_in n first g both (record {
        seeds = c.seeds;
        heads = λ o h m x. c.heads o h m (rw (supported_append g.undefined both g.negated first second o) (either_left _ _ x));
      }) in
      sub_antisym both all (least_length n (first ++ second) g ∙ sym (least_length n second (seeded g fore)))
      (least_in n (first ++ second) g all all_closed)
      (least_in n second (seeded g fore) both (record {
        seeds = λ o h m x. from.at o x;
        heads = λ o h m x. c.heads o h m (rw (supported_append g.undefined both g.negated first second o) (either_right _ _ x));
      }))
