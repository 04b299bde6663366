-- What a step is decided to do, case by case.
-- Assumes nothing.
use mathlib.Core.Path.{◌≡◌, refl, sym, ap, ◌∙◌}
use mathlib.Core.Bool.{Bool, true, false, not}
use mathlib.Core.List.{List}
use Prim.Native.Nat.{ℕ, ◌+◌, ◌-◌, ◌^◌, ◌<◌, ◌≤◌}
use native.Mathlib.Omega.{arith}
use lib.ListN.{length, take, drop, take-append-drop}
use lib.Seq.{take-take}
use Rattle.std.proofs.lemmas.List.{drop-take}
use Rattle.papers.specs.Tests.{◌and◌, ◌or◌}
use Rattle.stepping.specs.declared.Move.TheVariants.{Stands, Tries, Writes}
use Rattle.steps.specs.Explanations.{Problem}
use Rattle.steps.specs.Continuing.{contains_one, new_to}
use Rattle.stepping.specs.Stepping.{Decided}
use Rattle.steps.proofs.Minimals.{contains_append}
use Rattle.steps.proofs.Steps.{move_end, move_tries, move_writes, move_full}

-- ---- new to the first entries, and to those after them

contains_split : (k n : ℕ) (l : List ℕ) (p : ℕ) → contains_one k l p ≡ contains_one k (take n l) p or contains_one k (drop n l) p
contains_split k n l p =
    ap (λ (entries : List ℕ). contains_one k entries p) (sym (take-append-drop n l)) ∙ contains_append k (take n l) (drop n l) p

new_of_both : (e a b : Bool) → e and not (a or b) ≡ (e and not a) and not b
unfolding ◌and◌ ◌or◌
new_of_both true true b = refl
new_of_both true false b = refl
new_of_both false a b = refl

after_first : (first found : ℕ) (l : List ℕ) → first ≤ found → drop first (take found l) ≡ take (found - first) (drop first l)
after_first first found l h =
    let e : first + (found - first) ≡ found = omega arith in
    ap (λ (n : ℕ). drop first (take n l)) (sym e) ∙ drop-take first (found - first) l

new_since : (P : Problem) (p first found : ℕ) (l : List ℕ) → first ≤ found
    → new_to P (take found l) p ≡ new_to P (take first l) p and not (contains_one P.abducibles (take (found - first) (drop first l)) p)
unfolding new_to
new_since P p first found l h =
    let k = P.abducibles in
    let after = take (found - first) (drop first l) in
    rw (contains_split k first (take found l) p, take-take first found l h, after_first first found l h)
    (new_of_both (P.explains p) (contains_one k (take first l) p) (contains_one k after p))

-- ---- what is decided

module _ {k p first found : ℕ} {l : List ℕ} {new : Bool} where
  pub decided_end : p ≡ 3 ^ k → Decided k p first found l new Stands
  decided_end h = record { is = λ P a b. move_end P p found l (rw a h); allowed = tt }

  module _ (compared : first ≤ found) (inside : p ≡ 3 ^ k → ⊥) where
    -- No explanation, or one that is not new to the first entries.
    pub decided_dull : new ≡ false → Decided k p first found l new Tries
    unfolding ◌and◌
    decided_dull h = record {
      is = λ P a b. move_tries P p found l (rw a inside) (new_since P p first found l compared ∙ rw (b, h));
      allowed = inside;
    }

    module _ (is-new : new ≡ true) where
      -- An explanation containing the assumptions of an entry after them.
      pub decided_listed : contains_one k (take (found - first) (drop first l)) p ≡ true → Decided k p first found l new Tries
      unfolding ◌and◌
      decided_listed h = record {
        is = λ P a b. move_tries P p found l (rw a inside) (new_since P p first found l compared ∙ rw (b, a, is-new, h));
        allowed = inside;
      }

      module _ (unlisted : contains_one k (take (found - first) (drop first l)) p ≡ false) where
        -- A new one, and there is room.
        pub decided_new : found < length l → Decided k p first found l new Writes
        unfolding ◌and◌
        decided_new h = record {
          is = λ P a b. move_writes P p found l (rw a inside) (new_since P p first found l compared ∙ rw (b, a, is-new, unlisted)) h;
          allowed = (inside, h);
        }

        -- A new one, and the list is full.
        pub decided_full : length l ≤ found → Decided k p first found l new Stands
        unfolding ◌and◌
        decided_full h = record {
          is = λ P a b. move_full P p found l (rw a inside) (new_since P p first found l compared ∙ rw (b, a, is-new, unlisted)) h;
          allowed = tt;
        }
