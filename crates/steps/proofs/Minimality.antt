-- What it is to be minimal; every explanation contains a minimal one.
-- Assumes nothing.
use mathlib.Core.Path.{◌≡◌}
use mathlib.Core.Bool.{Bool, not}
use mathlib.Core.Logic.{◌↔◌, inl, inr, ⊎_elim}
use Prim.Native.Nat.{ℕ, zero, suc, ◌<◌, ◌≤◌}
use native.Mathlib.Omega.{arith}
use native.Mathlib.Decide.{ℕ_discrete}
use mathlib.Core.Path.{subst}
use lib.Dec.{T, T_not}
use Rattle.papers.proofs.TestLaws.{both, left, right, either_left, either_right, either, decided, differs, not_equal}
use Rattle.steps.specs.Explanations.{Problem, scenarios, part_of, some_below, lesser, minimal}
use Rattle.steps.proofs.PartOfLaws.{part_refl, part_trans, part_lt, PartOf, part_tells, part_holds}

-- ---- some number below n

pub some_here : (n : ℕ) (test : ℕ → Bool) (t : ℕ) → t < n → T (test t) → T (some_below n test)
unfolding some_below
some_here zero test t l h = absurd (omega arith)
some_here (suc n) test t l h = elim (ℕ_discrete t n) [
  | yes e ↦ either_left (test n) (some_below n test) (subst (λ (x : ℕ). T (test x)) e h)
  | no e ↦ either_right (test n) (some_below n test) (some_here n test t (omega arith) h)
]

pub some_where : (n : ℕ) (test : ℕ → Bool) → T (some_below n test) → (t : ℕ) × (t < n) × T (test t)
unfolding some_below
some_where zero test h = absurd h
some_where (suc n) test h =
    ⊎_elim (λ g. (n, omega arith, g)) (λ g. let r = some_where n test g in (r.0, omega arith, r.2)) (either (test n) (some_below n test) h)

module _ (P : Problem) where
  -- ---- another explanation with only part of the assumptions

  pub lesser_holds : (s t : ℕ) → T (P.explains t) → T (part_of P.abducibles t s) → (t ≡ s → ⊥) → T (lesser P s t)
  unfolding lesser
  lesser_holds s t h p n = both (P.explains t) _ h (both (part_of P.abducibles t s) _ p (not_equal t s n))

  pub lesser_tells : (s t : ℕ) → T (lesser P s t) → T (P.explains t) × T (part_of P.abducibles t s) × (t ≡ s → ⊥)
  unfolding lesser
  lesser_tells s t h =
      let r = right (P.explains t) _ h in
      (left (P.explains t) _ h, left (part_of P.abducibles t s) _ r, differs t s (right (part_of P.abducibles t s) _ r))

  pub minimal_explains : (s : ℕ) → T (minimal P s) → T (P.explains s)
  unfolding minimal
  minimal_explains s h = left (P.explains s) _ h

  pub minimal_least : (s t : ℕ) → T (minimal P s) → t < scenarios P → T (lesser P s t) → ⊥
  unfolding minimal
  minimal_least s t h l o =
      T_not (some_below (scenarios P) (lesser P s)) (right (P.explains s) _ h) (some_here (scenarios P) (lesser P s) t l o)

  pub not_minimal : (s : ℕ) → T (P.explains s) → T (not (minimal P s)) → (t : ℕ) × (t < scenarios P) × T (lesser P s t)
  unfolding minimal
  not_minimal s h n = elim (decided (some_below (scenarios P) (lesser P s))) [
    | inl o ↦ some_where (scenarios P) (lesser P s) o
    | inr o ↦ absurd (T_not (minimal P s) n (both (P.explains s) _ h o))
  ]

  -- "No other explanation has only part of its assumptions", read digit by digit.
  abbrev pub Minimal : ℕ → Type 0
  Minimal s = T (P.explains s) × ((t : ℕ) → t < scenarios P → T (P.explains t) → PartOf P.abducibles t s → t ≡ s)

  pub minimal_reads : (s : ℕ) → T (minimal P s) ↔ Minimal s
  minimal_reads s = (to, from)
    where
      to : T (minimal P s) → Minimal s
      to h = (
        minimal_explains s h,
        λ t l x p. elim (ℕ_discrete t s) [
          | yes e ↦ e
          | no n ↦ absurd (minimal_least s t h l (lesser_holds s t x (part_holds P.abducibles t s p) n))
        ],
      )

      from : Minimal s → T (minimal P s)
      from m = elim (decided (minimal P s)) [
        | inl y ↦ y
        | inr o ↦ (
            let w = not_minimal s m.0 o in
            let e = lesser_tells s w.0 w.2 in
            absurd (e.2 (m.1 w.0 w.1 e.0 (part_tells P.abducibles w.0 s e.1))))
      ]

  -- ---- every explanation contains a minimal one

  pub record Contained (s : ℕ) : Type 0 where
    pub it : ℕ
    pub le : it ≤ s
    pub is_minimal : T (minimal P it)
    pub is_part : T (part_of P.abducibles it s)

  contained : (n s : ℕ) → s < n → s < scenarios P → T (P.explains s) → Contained s
  contained zero s l m h = absurd (omega arith)
  contained (suc n) s l m h = elim (decided (minimal P s)) [
    | inl y ↦ record { it = s; le = omega arith; is_minimal = y; is_part = part_refl P.abducibles s }
    | inr o ↦ (
        let w = not_minimal s h o in
        let e = lesser_tells s w.0 w.2 in
        let d = part_lt P.abducibles w.0 s w.1 e.1 e.2 in
        let r = contained n w.0 (omega arith) w.1 e.0 in
        record {
          it = r.it;
          le = omega arith;
          is_minimal = r.is_minimal;
          is_part = part_trans P.abducibles r.it w.0 s r.is_part e.1;
        })
  ]

  pub contains_minimal : (s : ℕ) → s < scenarios P → T (P.explains s) → Contained s
  contains_minimal s m h = contained (suc s) s (omega arith) m h
