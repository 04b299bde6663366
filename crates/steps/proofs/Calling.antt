-- Lists of calls: call by call, in two parts, and without the refused ones, which add nothing and pass their record on unchanged.
-- Assumes nothing.
use mathlib.Core.Path.{◌≡◌, refl, sym, ap, ◌∙◌, subst}
use mathlib.Core.Bool.{Bool, true, false}
use mathlib.Core.List.{List, [], ◌∷◌, ◌++◌}
use Prim.Native.Nat.{ℕ, ◌+◌}
use native.Mathlib.Nat.{zero-add}
use Rattle.papers.specs.Tests.{◌or◌}
use Rattle.steps.specs.Explanations.{Problem}
use Rattle.steps.specs.Continuing.{Record, Report, continue}
use Rattle.steps.specs.Spoilt.{spoilt}
use Rattle.steps.specs.Calls.{Call, Answer, refusal, report, answer, record_after, list_after, Called, first, calls, allowances, unrefused, reports}

module _ (P : Problem) (c : Call) (r : Record) (list : List ℕ) where
  pub answer_refused : c.refused ≡ true → answer P c r list ≡ refusal
  unfolding answer ◌or◌
  answer_refused e = rw (e, answer)

  pub answer_spoilt : c.refused ≡ false → spoilt P r list ≡ true → answer P c r list ≡ refusal
  unfolding answer ◌or◌
  answer_spoilt e s = rw (e, s, answer)

  pub answer_made : c.refused ≡ false → spoilt P r list ≡ false → answer P c r list ≡ report (continue P c.allowance r list)
  unfolding answer ◌or◌
  answer_made e s = rw (e, s, answer)

  -- A refused call, and then the others.
  pub calls_refused : (cs : List Call) → c.refused ≡ true → calls P (c ∷ cs) r list ≡ first refusal (calls P cs r list)
  unfolding calls
  calls_refused cs e = rw (answer_refused e)

  -- A call that is made, and then the others.
  pub calls_made : (cs : List Call) (x : Report) → c.refused ≡ false → spoilt P r list ≡ false → continue P c.allowance r list ≡ x
      → calls P (c ∷ cs) r list ≡ first (report x) (calls P cs x.new x.list)
  unfolding calls
  calls_made cs x e s q = rw (answer_made e s, q)

-- Calls, and then others.
abbrev pub join : Called → Called → Called
join x y = record { last = y.last; list = y.list; answers = x.answers ++ y.answers }

pub calls_append : (P : Problem) (cs ds : List Call) (r : Record) (list : List ℕ)
    → calls P (cs ++ ds) r list ≡ join (calls P cs r list) (calls P ds (calls P cs r list).last (calls P cs r list).list)
unfolding calls
calls_append P [] ds r list = refl
calls_append P (c ∷ cs) ds r list = let a = answer P c r list in ap (first a) (calls_append P cs ds (record_after r a) (list_after list a))

-- ---- without the refused calls

pub allowances_refused : (c : Call) (cs : List Call) → c.refused ≡ true → allowances (c ∷ cs) ≡ allowances cs
unfolding allowances
allowances_refused c cs e = rw e (zero-add (allowances cs))

pub allowances_made : (c : Call) (cs : List Call) → c.refused ≡ false → allowances (c ∷ cs) ≡ c.allowance + allowances cs
unfolding allowances
allowances_made c cs e = rw e

-- Two runs of calls leave and report the same.
pub record Same (x y : Called) : Type 0 where
  pub last : x.last ≡ y.last
  pub list : x.list ≡ y.list
  pub reports : reports x.answers ≡ reports y.answers

reports_first : (a : Answer) (xs ys : List Answer) → reports xs ≡ reports ys → reports (a ∷ xs) ≡ reports (a ∷ ys)
unfolding reports
reports_first refusal xs ys e = e
reports_first (report x) xs ys e = ap (x ∷◌) e

unrefused_refused : (c : Call) (cs : List Call) → c.refused ≡ true → unrefused (c ∷ cs) ≡ unrefused cs
unfolding unrefused
unrefused_refused c cs e = rw e

unrefused_made : (c : Call) (cs : List Call) → c.refused ≡ false → unrefused (c ∷ cs) ≡ c ∷ unrefused cs
unfolding unrefused
unrefused_made c cs e = rw e

module _ (P : Problem) where
  -- The same call first, and the rest from what it leaves.
  same_first : (c : Call) (cs ds : List Call) (r : Record) (list : List ℕ)
      → ((q : Record) (m : List ℕ) → Same (calls P cs q m) (calls P ds q m)) → Same (calls P (c ∷ cs) r list) (calls P (c ∷ ds) r list)
  unfolding calls
  same_first c cs ds r list rest =
      let a = answer P c r list in
      let s = rest (record_after r a) (list_after list a) in
      record { last = s.last; list = s.list; reports = reports_first a _ _ s.reports }

  -- A refused call leaves and reports nothing of its own.
  same_refused : (c : Call) (cs : List Call) (r : Record) (list : List ℕ) → c.refused ≡ true → Same (calls P (c ∷ cs) r list) (calls P cs r list)
  unfolding reports
  same_refused c cs r list e = rw (calls_refused P c r list cs e) (record { last = refl; list = refl; reports = refl })

  -- The refused calls can be left out: from any record and any list.
  pub without_refused : (cs : List Call) (r : Record) (list : List ℕ) → Same (calls P cs r list) (calls P (unrefused cs) r list)
  unfolding unrefused
  without_refused [] r list = record { last = refl; list = refl; reports = refl }
  without_refused (c ∷ cs) r list = go c.refused refl (without_refused cs)
    where
      go : (b : Bool) → c.refused ≡ b → ((q : Record) (m : List ℕ) → Same (calls P cs q m) (calls P (unrefused cs) q m))
          → Same (calls P (c ∷ cs) r list) (calls P (unrefused (c ∷ cs)) r list)
      go true e rest =
          let s = same_refused c cs r list e in
          let t = rest r list in
          subst (λ (ds : List Call). Same (calls P (c ∷ cs) r list) (calls P ds r list)) (sym (unrefused_refused c cs e))
          (record { last = s.last ∙ t.last; list = s.list ∙ t.list; reports = s.reports ∙ t.reports })
      go false e rest =
          subst (λ (ds : List Call). Same (calls P (c ∷ cs) r list) (calls P ds r list)) (sym (unrefused_made c cs e))
          (same_first c cs (unrefused cs) r list rest)
