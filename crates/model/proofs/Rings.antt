-- A ring of rules that excuse each other fails where nothing else supports it: an unfounded set is false, whatever T is.
-- Assumes nothing.
use mathlib.Core.Path.{◌≡◌, refl}
use mathlib.Core.Bool.{Bool, true, false, not, cond}
use mathlib.Core.List.{List, [], ◌∷◌, map}
use mathlib.Core.Logic.{⊎_elim}
use Prim.Native.Nat.{ℕ}
use native.Mathlib.Omega.{arith}
use native.Mathlib.Decide.{ℕ_discrete}
use lib.Dec.{T, eqb→eq}
use lib.ListN.{length}
use Rattle.literals.specs.declared.bodies.BodyLiteral.{BodyLiteral}
use Rattle.literals.specs.declared.bodies.BodyLiteral.TheVariants.{Is, Undefined}
use Rattle.literals.specs.Numbering.{default_negated, objective_number, judged}
use Rattle.literals.specs.BodyLiterals.{body_literal, body_conjugate, conjugate_number}
use Rattle.literals.proofs.NumberingLaws.{default_same_objective, default_of_literal}
use Rattle.literals.proofs.BodyLaws.{undefined_read, literal_conjugate, conjugate_read}
use Rattle.papers.specs.Program.{Rule, Program, all_rules}
use Rattle.papers.specs.Valid.{All, All.none as nothing, All.each as each, Valid}
use Rattle.dual.specs.Table.{dual}
use Rattle.model.specs.Sets.{Set, has, empty, complement}
use Rattle.model.specs.Scenarios.{possible_abducibles}
use Rattle.model.specs.LeastSet.{literal_holds, body_holds, supported}
use Rattle.model.specs.Model.{possible_reduct, false_set}
use Rattle.model.specs.Falsity.{some_holds}
use Rattle.model.specs.ComputingModels.{falsity}
use Rattle.model.proofs.FalsityExamples.{two, ring_of_two}
use Rattle.papers.proofs.TestLaws.{left, right, either}
use Rattle.model.proofs.SetLaws.{Sub, empty_out, has_within, complement_in, complement_of}
use Rattle.model.proofs.LeastLaws.{Closed}
use Rattle.model.proofs.Rounds.{possible_least}
use Rattle.model.proofs.FoldsHold.{conjugate_negated}
use Rattle.model.proofs.FalsityLaws.{Backed, greatest_holds, falsity_from_dual}

-- ---- by the rules

-- A ring: no member is a true or undefined abducible literal, and each rule with a member for its head is excused, by the default
-- conjugate of a body literal: not(x) with x in the ring itself, or x in T.
pub record Ring (p : Program) (s : ℕ) (trues ring : Set) : Type 0 where
  pub sized : length ring ≡ judged p.atoms
  pub unseeded : (o : ℕ) → T (has ring o) → T (has (possible_abducibles p s) o) → ⊥
  pub excused : All (λ (r : Rule). T (has ring r.head) → T (some_holds trues ring (map conjugate_number r.body))) (all_rules p)

module _ (n : ℕ) (trues ring : Set) where
  -- A literal does not hold outside the ring where its default conjugate holds by it. That of u does not.
  conjugate_excused : (b : BodyLiteral) → T (literal_holds false trues ring (body_conjugate b))
      → T (literal_holds true (complement n ring) (complement n trues) b) → ⊥
  unfolding literal_holds body_conjugate
  conjugate_excused Undefined = λ t u. t
  conjugate_excused (Is l) = rw (conjugate_negated l.0, default_same_objective l.0) (go (default_negated l.0) (objective_number l.0)) where
    go : (b : Bool) (o : ℕ) → T (cond (not b) (has ring o) (has trues o)) → T (cond b (has (complement n trues) o) (has (complement n ring) o)) → ⊥
    go true o t u = (complement_in n trues o u).1 t
    go false o t u = (complement_in n ring o u).1 t

  -- What is listed as u never holds, be it that of FFFE.
  literal_excused : (l : ℕ) → T (literal_holds false trues ring (body_literal (conjugate_number l)))
      → T (literal_holds true (complement n ring) (complement n trues) (body_literal l)) → ⊥
  unfolding literal_holds
  literal_excused l t = elim (ℕ_discrete l 0xFFFE) [
    | yes e ↦ absurd (rw (e, literal_conjugate 0xFFFE (λ q. omega arith), default_of_literal 0x7FFF, undefined_read) at t)
    | no ne ↦ conjugate_excused (body_literal l) (rw (conjugate_read l ne) at t)
  ]

  body_excused : (body : List ℕ) → T (some_holds trues ring (map conjugate_number body)) → T (body_holds true (complement n ring) (complement n trues) body) → ⊥
  unfolding some_holds body_holds
  body_excused [] t u = t
  body_excused (l ∷ more) t u = ⊎_elim (λ e. literal_excused l e (left _ _ u)) (λ e. body_excused more e (right _ _ u)) (either _ _ t)

  unsupported : (o : ℕ) → T (has ring o) → {rules : List Rule}
      → All (λ (r : Rule). T (has ring r.head) → T (some_holds trues ring (map conjugate_number r.body))) rules
      → T (supported true (complement n ring) (complement n trues) rules o) → ⊥
  unfolding supported
  unsupported o t nothing u = u
  unsupported o t (each {a = r} {more = more} h rest) u =
      ⊎_elim
      (λ k. let e : r.head ≡ o = eqb→eq r.head o (left _ _ k) in body_excused r.body (h (rw e t)) (right _ _ k))
      (λ k. unsupported o t rest k)
      (either _ _ u)

module _ (p : Program) (s : ℕ) (trues ring : Set) (h : Ring p s trues ring) where
  outside_closed : Closed (judged p.atoms) (all_rules p) (possible_reduct p s trues) (complement (judged p.atoms) ring)
  unfolding possible_reduct
  outside_closed = record {
    seeds = λ o l a x. complement_of (judged p.atoms) ring o l (λ t. h.unseeded o t x);
    heads = λ o l a x. complement_of (judged p.atoms) ring o l (λ t. unsupported (judged p.atoms) trues ring o t h.excused x);
  }

  -- A ring is false.
  pub ring_false : Sub ring (false_set p s trues)
  unfolding false_set
  ring_false = record {
    at = λ o t.
        let w = has_within ring o t in
        let e = h.sized in
        complement_of (judged p.atoms) _ o (omega arith)
        (λ u. (complement_in (judged p.atoms) ring o ((possible_least p s trues (complement (judged p.atoms) ring) outside_closed).at o u)).1 t);
  }

-- ---- by the dual

-- The same of a set that the dual's fields back.
pub backed_false : (p : Program) → Valid p → (s : ℕ) (trues ring : Set) → Backed p s (dual p) trues ring → Sub ring (false_set p s trues)
backed_false p v s trues ring b = rw (falsity_from_dual p v s trues) at (greatest_holds p s (dual p) trues ring b)

-- ---- a ring of two

two_ring : Ring two 0 (empty 5) ring_of_two
unfolding falsity
two_ring = record {
  sized = refl;
  unseeded = λ o t x. empty_out 5 o x;
  excused = each (λ t. tt) (each (λ t. tt) nothing);
}

-- It is false by the law, and so in the model (`two_model`).
pub two_false : Sub ring_of_two (false_set two 0 (empty 5))
two_false = ring_false two 0 (empty 5) ring_of_two two_ring
