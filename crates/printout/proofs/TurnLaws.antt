-- One turn of the search: it is finished, or it has come nearer to 3^k. Assumes nothing.
use mathlib.Core.Path.{◌≡◌, refl, sym, ap, subst, ◌∙◌}
use mathlib.Core.Bool.{Bool, true, false, cond, true≢false}
use mathlib.Core.List.{List}
use Prim.Native.Nat.{ℕ, ◌+◌, ◌-◌, ◌*◌, ◌≤◌, ◌<◌}
use native.Mathlib.Omega.{arith}
use borrow.Author.Tests.{eqb-true, eqb-false, ltb-true, ltb-false, eq-eqb, ne_eqb}
use lib.Dec.{eqb, ltb}
use lib.ListN.{length, take}
use Rattle.held.specs.declared.SearchRecord.{SearchRecord}
use Rattle.held.specs.Masks.{masks}
use Rattle.held.specs.HeldCalls.{fresh_search}
use denote.Enum.Bare.{sameb}
use Rattle.steps.specs.contracts.State.{the_type}
use Rattle.steps.specs.declared.State.{State}
use Rattle.steps.specs.declared.State.TheVariants.{Going, Full, Ended}
use Rattle.steps.specs.Explanations.{Problem, scenarios, minimals, stop, sum_below}
use Rattle.steps.specs.Continuing.{state_by}
use Rattle.steps.proofs.Stopping.{stop_le}
use Rattle.printout.specs.declared.searching.Progress.{Progress}
use Rattle.printout.specs.DeskSearch.{is_going, Stands, GoneOn, last_state, Finished}

-- The test of the loop.
pub going_is : (s : State) → sameb the_type s Going ≡ is_going s
unfolding is_going
going_is Going = refl
going_is Full = refl
going_is Ended = refl

-- What is left to do: a turn more for a search that goes on.
abbrev pub left : Problem → Progress → Bool → ℕ
left P s going = 2 * (scenarios P - s.reached.at.position) + cond going 1 0

-- After a turn.
pub record Turned (P : Problem) (L : ℕ) (before after : Progress) (going : Bool) : Type 0 where
  pub finished : going ≡ false → Finished P L after
  pub nearer : left P after going < left P before true

module _ (P : Problem) (L : ℕ) (before after : Progress) (within : before.reached.at.position ≤ stop P L) (gone : GoneOn P L before after) where
  ends : after.reached.at.position ≡ scenarios P → after.state ≡ Ended → Turned P L before after false
  unfolding last_state
  ends e s =
      let top = stop_le P L in
      let at = gone.position in
      let there : stop P L ≡ scenarios P = omega arith in
      record { finished = λ h. record { position = omega arith; state = s ∙ rw (eq-eqb (stop P L) (scenarios P) there) }; nearer = omega arith }

  fills : (after.reached.at.position ≡ scenarios P → ⊥) → after.reached.at.position - before.reached.at.position < 4096 → after.state ≡ Full
      → Turned P L before after false
  unfolding last_state
  fills e short s =
      let at = gone.position in
      let stopped : after.reached.at.position ≡ stop P L = omega arith in
      let apart : (stop P L ≡ scenarios P → ⊥) = λ h. e (stopped ∙ h) in
      record { finished = λ h. record { position = stopped; state = s ∙ rw (ne_eqb (stop P L) (scenarios P) apart) }; nearer = omega arith }

  goes : 4096 ≤ after.reached.at.position - before.reached.at.position → Turned P L before after true
  goes far =
      let top = stop_le P L in
      let at = gone.position in
      record { finished = λ h. absurd (true≢false cc); nearer = omega arith }

  pub turned : Turned P L before after (is_going after.state)
  unfolding state_by is_going
  turned = go (eqb after.reached.at.position (scenarios P)) refl (ltb (after.reached.at.position - before.reached.at.position) 4096) refl
    where
      go : (x : Bool) → eqb after.reached.at.position (scenarios P) ≡ x
          → (y : Bool) → ltb (after.reached.at.position - before.reached.at.position) 4096 ≡ y
          → Turned P L before after (is_going after.state)
      go true e y h =
          let s : after.state ≡ Ended = gone.state ∙ rw e in
          subst (Turned P L before after) (sym (ap is_going s)) (ends (eqb-true after.reached.at.position (scenarios P) e) s)
      go false e true h =
          let s : after.state ≡ Full = gone.state ∙ rw (e, h) in
          subst (Turned P L before after) (sym (ap is_going s))
          (fills (eqb-false after.reached.at.position (scenarios P) e) (ltb-true (after.reached.at.position - before.reached.at.position) 4096 h) s)
      go false e false h =
          let s : after.state ≡ Going = gone.state ∙ rw (e, h) in
          subst (Turned P L before after) (sym (ap is_going s)) (goes (ltb-false (after.reached.at.position - before.reached.at.position) 4096 h))

-- A search begins with nothing found and nothing tried.
pub begins : (P : Problem) (list : List ℕ) (s : Progress) → s.reached ≡ fresh_search (masks 0 0) → s.tried ≡ 0 → s.rounds ≡ 0 → Stands P list s
unfolding minimals sum_below
begins P list s e t r =
    let position = ap (λ (x : SearchRecord). x.at.position) e in
    let found = ap (λ (x : SearchRecord). x.at.found) e in
    record {
      within = omega arith;
      found = found ∙ ap (λ (n : ℕ). length (minimals P n)) (sym position);
      entries = ap (λ (n : ℕ). take n list) found ∙ ap (minimals P) (sym position);
      tried = t ∙ sym position;
      rounds = r ∙ ap (λ (n : ℕ). sum_below n P.rounds) (sym position);
      none = ap (λ (x : SearchRecord). x.held) e;
    }
