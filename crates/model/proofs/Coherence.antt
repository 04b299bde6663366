-- Coherence: where o is in T(j), its conjugate is in F(j+1); so in the model, and whatever is true has a false conjugate.
-- Assumes nothing.
use mathlib.Core.Bool.{not}
use mathlib.Core.List.{List}
use Prim.Native.Nat.{ℕ, ◌*◌, ◌<◌}
use native.Mathlib.Omega.{arith}
use borrow.Author.Tests.{lt-ltb}
use lib.Dec.{T, T_not}
use Rattle.literals.specs.Numbering.{explicit_conjugate, judged}
use Rattle.literals.proofs.NumberingLaws.{explicit_twice, explicit_below}
use Rattle.papers.specs.Program.{Rule, Program, all_rules}
use Rattle.model.specs.Sets.{Set, has}
use Rattle.model.specs.LeastSet.{Reduct, step, least}
use Rattle.model.specs.Model.{conjugate_in, possible_reduct, possible_set, false_set, successor, model}
use Rattle.papers.proofs.TestLaws.{both, left}
use Rattle.model.proofs.SetLaws.{has_within, set_of_in, complement_of}
use Rattle.model.proofs.LeastLaws.{least_length, least_fixed, has_step}
use Rattle.model.proofs.Rounds.{model_fixed}

-- What is in the least set is allowed.
pub least_allowed : (n : ℕ) (rules : List Rule) (g : Reduct) (o : ℕ) → T (has (least n rules g) o) → T (has g.allowed o)
least_allowed n rules g o t =
    let w = has_within (least n rules g) o t in
    let e = least_length n rules g in
    let h : o < n = omega arith in
    let fixed : T (has (step n rules g (least n rules g)) o) = rw (least_fixed n rules g) t in
    left _ _ (rw (has_step n rules g (least n rules g) o h) at fixed)

module _ (p : Program) (s : ℕ) where
  -- Nothing possible has a true conjugate.
  pub possible_allowed : (t : Set) (o : ℕ) → T (has (possible_set p s t) o) → T (conjugate_in p.atoms t o) → ⊥
  unfolding possible_set possible_reduct
  possible_allowed t o x =
      T_not (conjugate_in p.atoms t o)
      (set_of_in (judged p.atoms) (λ q. not (conjugate_in p.atoms t q)) o
      (least_allowed (judged p.atoms) (all_rules p) (possible_reduct p s t) o x)).1

  conjugate_back : (t : Set) (o : ℕ) → o < 2 * p.atoms → T (has t o) → T (conjugate_in p.atoms t (explicit_conjugate o))
  unfolding conjugate_in
  conjugate_back t o h x =
      both _ _
      (rw (lt-ltb (explicit_conjugate o) (2 * p.atoms) (explicit_below p.atoms o h)) tt)
      (rw (explicit_twice o) x)

  pub coherent : (t : Set) (o : ℕ) → o < 2 * p.atoms → T (has t o) → T (has (false_set p s t) (explicit_conjugate o))
  unfolding false_set
  coherent t o h x =
      let b = explicit_below p.atoms o h in
      complement_of (judged p.atoms) (possible_set p s t) (explicit_conjugate o) (omega arith)
      (λ u. possible_allowed t (explicit_conjugate o) u (conjugate_back t o h x))

  next_coherent : (o : ℕ) → o < 2 * p.atoms → T (has (model p s).trues o) → T (has (successor p s (model p s)).falses (explicit_conjugate o))
  unfolding successor
  next_coherent o h x = coherent (model p s).trues o h x

  pub model_coherent : (o : ℕ) → o < 2 * p.atoms → T (has (model p s).trues o) → T (has (model p s).falses (explicit_conjugate o))
  model_coherent o h x = rw (model_fixed p s) at (next_coherent o h x)
