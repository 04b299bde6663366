-- The list of the minimal explanations below n. Once the list holds those below p, "containing no listed entry's assumptions" is
-- minimality.
-- Assumes nothing.
use mathlib.Core.Path.{◌≡◌, refl, sym, ap, ◌∙◌}
use mathlib.Core.Bool.{Bool, true, false, not, cond}
use mathlib.Core.List.{List, [], ◌∷◌, ◌++◌, append-nil, append_assoc}
use mathlib.Core.Logic.{inl, inr}
use Prim.Native.Nat.{ℕ, zero, suc, ◌<◌, ◌≤◌}
use native.Mathlib.Omega.{arith}
use native.Mathlib.Decide.{le_ind, dec_lt}
use lib.Dec.{T, T_not, not_T}
use lib.ListN.{length, get_or, length-append, get_or-append}
use lib.Seq.{get_or_at}
use Rattle.papers.specs.Tests.{◌and◌, ◌or◌}
use Rattle.papers.proofs.TestLaws.{both, left, right, decided, same_tests, or_assoc, is_true, is_false}
use Rattle.steps.specs.Explanations.{Problem, scenarios, part_of, some_below, minimal, minimals}
use Rattle.steps.specs.Continuing.{contains_one, new_to}
use Rattle.steps.proofs.PartOfLaws.{part_trans, part_lt}
use Rattle.steps.proofs.Minimality.{some_here, some_where, lesser_holds, lesser_tells, minimal_explains, minimal_least, not_minimal, contains_minimal}

pub contains_append : (k : ℕ) (xs ys : List ℕ) (p : ℕ) → contains_one k (xs ++ ys) p ≡ contains_one k xs p or contains_one k ys p
unfolding contains_one ◌or◌
contains_append k [] ys p = refl
contains_append k (x ∷ xs) ys p = rw (contains_append k xs ys p) (sym (or_assoc (part_of k x p) _ _))

module _ (P : Problem) where
  minimals_suc : (n : ℕ) → minimals P (suc n) ≡ minimals P n ++ cond (minimal P n) (n ∷ []) []
  unfolding minimals
  minimals_suc n = refl

  pub minimals_zero : minimals P 0 ≡ []
  unfolding minimals
  minimals_zero = refl

  pub minimals_yes : (n : ℕ) → T (minimal P n) → minimals P (suc n) ≡ minimals P n ++ n ∷ []
  minimals_yes n h = minimals_suc n ∙ rw (is_true (minimal P n) h)

  pub minimals_no : (n : ℕ) → T (not (minimal P n)) → minimals P (suc n) ≡ minimals P n
  minimals_no n h = minimals_suc n ∙ rw (is_false (minimal P n) (T_not (minimal P n) h)) (append-nil (minimals P n))

  -- ---- the entries

  minimal_part : ℕ → ℕ → Bool
  minimal_part p t = minimal P t and part_of P.abducibles t p

  contains_minimals : (p n : ℕ) → contains_one P.abducibles (minimals P n) p ≡ some_below n (minimal_part p)
  unfolding contains_one some_below minimals minimal_part ◌and◌ ◌or◌
  contains_minimals p zero = refl
  contains_minimals p (suc n) =
      rw (contains_append P.abducibles (minimals P n) (cond (minimal P n) (n ∷ []) []) p, contains_minimals p n)
      (last (minimal P n) (some_below n (minimal_part p)))
    where
      swap : (b c : Bool) → c or (b or false) ≡ b or c
      swap true true = refl
      swap true false = refl
      swap false true = refl
      swap false false = refl

      last : (m c : Bool) → c or contains_one P.abducibles (cond m (n ∷ []) []) p ≡ (m and part_of P.abducibles n p) or c
      last true c = swap (part_of P.abducibles n p) c
      last false true = refl
      last false false = refl

  -- An explanation that contains no minimal one below it is minimal, and the other way round.
  pub new_minimal : (p : ℕ) → p < scenarios P → new_to P (minimals P p) p ≡ minimal P p
  unfolding new_to minimal_part
  new_minimal p l = same_tests (new_to P (minimals P p) p) (minimal P p) to from
    where
      listed : Bool
      listed = contains_one P.abducibles (minimals P p) p

      to : T (new_to P (minimals P p) p) → T (minimal P p)
      to h = elim (decided (minimal P p)) [
        | inl y ↦ y
        | inr o ↦ (
            let w = not_minimal P p (left (P.explains p) _ h) o in
            let e = lesser_tells P p w.0 w.2 in
            let d = part_lt P.abducibles w.0 p w.1 e.1 e.2 in
            let r = contains_minimal P w.0 w.1 e.0 in
            let within = part_trans P.abducibles r.it w.0 p r.is_part e.1 in
            let g = some_here p (minimal_part p) r.it (omega arith) (both (minimal P r.it) _ r.is_minimal within) in
            absurd (T_not listed (right (P.explains p) _ h) (rw (contains_minimals p p) g)))
      ]

      from : T (minimal P p) → T (new_to P (minimals P p) p)
      from h =
          both (P.explains p) _ (minimal_explains P p h) (not_T listed (λ g.
          let w = some_where p (minimal_part p) (rw (contains_minimals p p) at g) in
          let lt = w.1 in
          let x = minimal_explains P w.0 (left (minimal P w.0) _ w.2) in
          minimal_least P p w.0 h (omega arith) (lesser_holds P p w.0 x (right (minimal P w.0) _ w.2) (omega arith))))

  -- ---- one entry

  pub record Nth (n L q : ℕ) : Type 0 where
    pub small : q < n
    pub is_minimal : T (minimal P q)
    pub count : length (minimals P q) ≡ L

  pub nth : (n L d : ℕ) → L < length (minimals P n) → Nth n L (get_or (minimals P n) L d)
  nth zero L d h = let e = ap length minimals_zero in absurd (omega arith)
  nth (suc n) L d h = elim (decided (minimal P n)) [
    | inl y ↦ (
        let e = minimals_yes n y in
        let len = ap length e ∙ length-append (minimals P n) (n ∷ []) in
        elim (dec_lt L (length (minimals P n))) [
          | yes l ↦ rw (e, get_or-append (minimals P n) (n ∷ []) d L l) (wider (nth n L d l))
          | no g ↦ (
              let c : length (minimals P n) ≡ L = omega arith in
              rw (e, get_or_at (minimals P n) n [] d L c) (record { small = omega arith; is_minimal = y; count = c }))
        ])
    | inr o ↦ rw (minimals_no n o) (wider (nth n L d (rw (minimals_no n o) at h)))
  ]
    where
      wider : {q : ℕ} → Nth n L q → Nth (suc n) L q
      wider r = record { small = omega arith; is_minimal = r.is_minimal; count = r.count }

  -- Those below p come first among those below n.
  prefix : (p n : ℕ) → p ≤ n → (r : List ℕ) × (minimals P n ≡ minimals P p ++ r)
  prefix p n h =
      le_ind (λ (m : ℕ). (r : List ℕ) × (minimals P m ≡ minimals P p ++ r)) ([], sym (append-nil (minimals P p)))
      (λ m g r. (r.0 ++ cond (minimal P m) (m ∷ []) [], minimals_suc m ∙ rw r.1 (append_assoc (minimals P p) r.0 _)))
      n h

  pub prefix_at : (p n L d : ℕ) → p ≤ n → L < length (minimals P p) → get_or (minimals P n) L d ≡ get_or (minimals P p) L d
  prefix_at p n L d h l = rw (prefix p n h).1 (get_or-append (minimals P p) (prefix p n h).0 d L l)

  -- A minimal explanation stands in the list after those below it.
  pub listed_at : (p n d : ℕ) → p < n → T (minimal P p) → get_or (minimals P n) (length (minimals P p)) d ≡ p
  listed_at p n d h y =
      let e = minimals_yes p y in
      let len = ap length e ∙ length-append (minimals P p) (p ∷ []) in
      prefix_at (suc p) n (length (minimals P p)) d h (omega arith) ∙ rw e (get_or_at (minimals P p) p [] d (length (minimals P p)) refl)

  pub listed_within : (p n : ℕ) → p < n → T (minimal P p) → length (minimals P p) < length (minimals P n)
  listed_within p n h y =
      let r = prefix (suc p) n h in
      let all = ap length r.1 ∙ length-append (minimals P (suc p)) r.0 in
      let len = ap length (minimals_yes p y) ∙ length-append (minimals P p) (p ∷ []) in
      omega arith
