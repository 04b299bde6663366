-- What a caller knows of a read: what was accepted, or the refusal; and back, as a reader comes to tell it.
-- Assumes nothing.
use mathlib.Core.Path.{◌≡◌, refl, sym, ap, ◌∙◌}
use mathlib.Core.Bool.{true, true≢false}
use Prim.Native.Nat.{ℕ}
use Rattle.std.specs.Prelude.{Ok, Err, MatchResult, IsErrAnd, is_ok}
use Rattle.std.specs.declared.result.Result.{Result}
use Rattle.papers.specs.declared.Paper.{Paper}
use Rattle.papers.specs.declared.Fault.{Fault}
use Rattle.papers.specs.declared.Refusal as declared
use Rattle.papers.specs.Outcome.{Refusal, Outcome, accepted, refused, refusal, passing}
use Rattle.papers.specs.Told.{tells, refused_at, fault_number, refusal_of, check_told, refusal_told, read_told, value_told}
use Rattle.papers.proofs.Checks.{passing_refuses}
use Rattle.papers.proofs.ToldLaws.{fault_not_0}

-- What was accepted, by what is told of it.
pub record Read {A B : Type 0} (values : A → B) (o : Outcome A) (told : B) : Type 0 where
  pub value : A
  pub is : o ≡ accepted value
  pub tells_it : values value ≡ told

-- ---- of what is told

module _ {A B : Type 0} (values : A → B) (o : Outcome A) where
  pub told_accepted : {b : B} → read_told values o ≡ tells b → Read values o b
  unfolding read_told refusal_told
  told_accepted {b} e = by o refl e where
    by : (x : Outcome A) → o ≡ x → read_told values x ≡ tells b → Read values o b
    by (accepted a) q h = record { value = a; is = q; tells_it = cc }
    by (refused r) q h = absurd (true≢false cc)

  pub told_refused : {r : Refusal} → read_told values o ≡ refusal_told r → o ≡ refused r
  unfolding read_told refusal_told
  told_refused {r} e = by o e where
    by : (x : Outcome A) → read_told values x ≡ refused_at r.number r.paper r.place → x ≡ refused r
    by (accepted a) h = absurd (true≢false cc)
    by (refused q) h =
        let number : q.number ≡ r.number = cc in
        let paper : q.paper ≡ r.paper = cc in
        let place : q.place ≡ r.place = cc in
        λ i. refused (record { number = number i; paper = paper i; place = place i })

  pub accepted_told : {b : B} → Read values o b → read_told values o ≡ tells b
  unfolding read_told
  accepted_told r = rw r.is (ap tells r.tells_it)

-- ---- of what a read answered

module _ {A B C : Type 0} (means : C → B) (values : A → B) (o : Outcome A) where
  module _ {got : Result C declared.Refusal} (is : value_told means got ≡ read_told values o) where
    pub got_accepted : {c : C} → got ≡ Ok c → Read values o (means c)
    unfolding value_told
    got_accepted e = told_accepted values o (sym is ∙ ap (value_told means) e)

    pub got_refused : {r : declared.Refusal} → got ≡ Err r → o ≡ refused (refusal_of r)
    unfolding value_told
    got_refused e = told_refused values o (sym is ∙ ap (value_told means) e)

  pub ok_told : {c : C} → Read values o (means c) → value_told means (Ok c) ≡ read_told values o
  unfolding value_told
  ok_told r = sym (accepted_told values o r)

  pub err_told : (r : declared.Refusal) → o ≡ refused (refusal_of r) → value_told means (Err r) ≡ read_told values o
  unfolding value_told read_told
  err_told r e = rw e

  -- A `?` hands the refusal on.
  pub handed_on : (got : Result C declared.Refusal) (r : declared.Refusal) → IsErrAnd got (λ s. s ≡ r) → o ≡ refused (refusal_of r)
      → value_told means got ≡ read_told values o
  unfolding value_told read_told
  handed_on (Ok c) r h e = absurd h
  handed_on (Err s) r h e = rw (h, e)

-- ---- of what a test answered

module _ {got : Result (Unit {0}) Fault} {number : ℕ} (is : check_told got ≡ number) where
  pub check_passed : got ≡ Ok tt → number ≡ 0
  unfolding check_told
  check_passed e = sym is ∙ ap check_told e

  pub check_failed : {f : Fault} → got ≡ Err f → number ≡ fault_number f
  unfolding check_told
  check_failed e = sym is ∙ ap check_told e

-- What `map_err` was given: it hands on that a test passed, and `Q` says what it makes of a fault.
pub mapped_passed : (got : Result (Unit {0}) Fault) → true ≡ is_ok got → got ≡ Ok tt
mapped_passed (Ok passed) e = refl
mapped_passed (Err f) e = absurd (true≢false e)

pub mapped_failed : (got : Result (Unit {0}) Fault) (Q : Fault → Type 0) (r : declared.Refusal)
    → MatchResult got (λ x. ◌≡◌ {A = Result (Unit {0}) declared.Refusal} (Err r) (Ok x)) Q → (f : Fault) × (got ≡ Err f) × Q f
mapped_failed (Ok passed) Q r h = absurd (true≢false cc)
mapped_failed (Err f) Q r h = (f, refl, h)

-- A test that failed refuses, at the place that it is told with.
pub failed_refuses : {A : Type 0} {number : ℕ} (f : Fault) (paper : Paper) (place : ℕ) (next : Outcome A) → number ≡ fault_number f
    → passing number paper place next ≡ refused (refusal (fault_number f) paper place)
failed_refuses f paper place next e = rw e (passing_refuses (fault_number f) paper place next (fault_not_0 f))
