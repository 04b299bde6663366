-- The pause theorem: "a single claim about the list of continue calls, of any length, the empty one included".
-- Assumes nothing.
use mathlib.Core.Path.{◌≡◌, refl, sym, ap, ap₂, ◌∙◌, subst}
use mathlib.Core.Bool.{Bool, true, false, cond, true≢false}
use mathlib.Core.List.{List, [], ◌∷◌, map}
use Prim.Native.Nat.{ℕ, ◌+◌, ◌-◌, ◌<◌, ◌≤◌, min}
use native.Mathlib.Omega.{arith}
use borrow.Author.Tests.{eqb-true, ltb-true}
use lib.Dec.{eqb, ltb}
use lib.ListN.{length}
use Rattle.papers.specs.Valid.{All, All.none as nothing, All.each as each}
use Rattle.steps.specs.Explanations.{Problem, scenarios, stop, sum_below, rounds_from}
use Rattle.steps.specs.declared.State.TheVariants.{Ended, Full, Going}
use Rattle.steps.specs.Continuing.{Record, fresh, state_by, state_of, Work, Report, report_of}
use Rattle.steps.specs.Calls.{Call, refusal, report, Called, first, calls, tried_by, rounds_by, allowances, unrefused, reports}
use Rattle.steps.specs.Demand.{Honest, is_refused, is_refusal, Demand}
use Rattle.steps.proofs.Sums.{sum_rounds, sum_bound}
use Rattle.steps.proofs.Stopping.{stop_le}
use Rattle.steps.proofs.Canonical.{found_below, record_at, list_at, work_at, continue_at}
use Rattle.steps.proofs.Canonical.{record_at_fresh, list_at_fresh, list_at_found, list_at_beyond, list_at_length}
use Rattle.steps.proofs.Sound.{reached_unspoilt}
use Rattle.steps.proofs.Calling.{calls_refused, calls_made, allowances_refused, allowances_made, Same, without_refused}

-- ---- one call

-- Ended is reported at 3^k, and full where fewer were tried than allowed.
state_ended : (P : Problem) (w : ℕ) (s : Work) → state_of P w s ≡ Ended → s.position ≡ scenarios P
unfolding state_by
state_ended P w s e = go (eqb s.position (scenarios P)) (ltb s.tried w) refl e
  where
    go : (a b : Bool) → eqb s.position (scenarios P) ≡ a → cond a Ended (cond b Full Going) ≡ Ended → s.position ≡ scenarios P
    go true b x h = eqb-true s.position (scenarios P) x
    go false true x h = absurd (true≢false cc)
    go false false x h = absurd (true≢false cc)

state_full : (P : Problem) (w : ℕ) (s : Work) → state_of P w s ≡ Full → s.tried < w
unfolding state_by
state_full P w s e = go (eqb s.position (scenarios P)) (ltb s.tried w) refl e
  where
    go : (a b : Bool) → ltb s.tried w ≡ b → cond a Ended (cond b Full Going) ≡ Full → s.tried < w
    go true b x h = absurd (true≢false cc)
    go false true x h = ltb-true s.tried w x
    go false false x h = absurd (true≢false cc)

module _ (P : Problem) (l : List ℕ) where
  -- The report of a call from position p that tries m scenarios.
  report_at : ℕ → ℕ → ℕ → Report
  report_at w p m = report_of P w (work_at P l (p + m) m (sum_below m (rounds_from P p)))

  honest_at : (w p m : ℕ) → p ≤ stop P (length l) → m ≡ min w (stop P (length l) - p) → Honest (stop P (length l)) (report_at w p m)
  unfolding report_at
  honest_at w p m h e = record {
    ended = λ q. let z = state_ended P w s q in let b = stop_le P (length l) in omega arith;
    full = λ q. let z = state_full P w s q in omega arith;
  }
    where
      s : Work
      s = work_at P l (p + m) m (sum_below m (rounds_from P p))

  calls_at_made : (c : Call) (cs : List Call) (p m : ℕ) → c.refused ≡ false → p ≤ stop P (length l) → m ≡ min c.allowance (stop P (length l) - p)
      → calls P (c ∷ cs) (record_at P p) (list_at P l p)
      ≡ first (report (report_at c.allowance p m)) (calls P cs (record_at P (p + m)) (list_at P l (p + m)))
  unfolding report_at record_at
  calls_at_made c cs p m x h e =
      calls_made P c (record_at P p) (list_at P l p) cs (report_at c.allowance p m) x (reached_unspoilt P l p h) (continue_at P l c.allowance p m h e)

  -- ---- many calls

  -- Calls from position p that come to e.
  pub record Ran (cs : List Call) (p e : ℕ) (c : Called) : Type 0 where
    pub last : c.last ≡ record_at P e
    pub list : c.list ≡ list_at P l e
    pub tried : p + tried_by c.answers ≡ e
    pub rounds : sum_below p P.rounds + rounds_by c.answers ≡ sum_below e P.rounds
    pub honest : All (Honest (stop P (length l))) (reports c.answers)
    pub refused : map is_refusal c.answers ≡ map is_refused cs

  ran_none : (p e : ℕ) → e ≡ p → Ran [] p e (record { last = record_at P p; list = list_at P l p; answers = [] })
  unfolding tried_by rounds_by reports
  ran_none p e d = record {
    last = ap (record_at P) (sym d);
    list = ap (list_at P l) (sym d);
    tried = omega arith;
    rounds = let q = ap (λ (n : ℕ). sum_below n P.rounds) d in omega arith;
    honest = nothing;
    refused = refl;
  }

  ran_refused : (c : Call) (cs : List Call) (p e : ℕ) (x : Called) → c.refused ≡ true → Ran cs p e x → Ran (c ∷ cs) p e (first refusal x)
  unfolding tried_by rounds_by reports is_refusal is_refused
  ran_refused c cs p e x q r = record {
    last = r.last;
    list = r.list;
    tried = r.tried;
    rounds = r.rounds;
    honest = r.honest;
    refused = ap₂ ◌∷◌ (sym q) r.refused;
  }

  ran_made : (c : Call) (cs : List Call) (p m e : ℕ) (x : Called) → c.refused ≡ false → p ≤ stop P (length l)
      → m ≡ min c.allowance (stop P (length l) - p) → Ran cs (p + m) e x → Ran (c ∷ cs) p e (first (report (report_at c.allowance p m)) x)
  unfolding tried_by rounds_by reports is_refusal is_refused report_at
  ran_made c cs p m e x q h d r = record {
    last = r.last;
    list = r.list;
    tried = let t = r.tried in omega arith;
    rounds = let s = sum_rounds P p m in let t = r.rounds in omega arith;
    honest = each (honest_at c.allowance p m h d) r.honest;
    refused = ap₂ ◌∷◌ (sym q) r.refused;
  }

  calls_at : (cs : List Call) (p e : ℕ) → p ≤ stop P (length l) → e ≡ min (stop P (length l)) (p + allowances cs)
      → Ran cs p e (calls P cs (record_at P p) (list_at P l p))
  unfolding calls allowances
  calls_at [] p e h q = ran_none p e (omega arith)
  calls_at (c ∷ cs) p e h q = go c.refused refl (calls_at cs)
    where
      Rest : Type 0
      Rest = (p e : ℕ) → p ≤ stop P (length l) → e ≡ min (stop P (length l)) (p + allowances cs)
          → Ran cs p e (calls P cs (record_at P p) (list_at P l p))

      go : (b : Bool) → c.refused ≡ b → Rest → Ran (c ∷ cs) p e (calls P (c ∷ cs) (record_at P p) (list_at P l p))
      go true x rest =
          subst (Ran (c ∷ cs) p e) (sym (calls_refused P c (record_at P p) (list_at P l p) cs x))
          (ran_refused c cs p e _ x (rest p e h (omega (arith, allowances_refused c cs x))))
      go false x rest =
          let a = allowances_made c cs x in
          let m = min c.allowance (stop P (length l) - p) in
          subst (Ran (c ∷ cs) p e) (sym (calls_at_made c cs p m x h refl))
          (ran_made c cs p m e _ x h refl (rest (p + m) e (omega arith) (omega arith)))

  ran_demand : (cs : List Call) (e : ℕ) (c : Called) → e ≡ min (stop P (length l)) (allowances cs) → Ran cs 0 e c
      → Same c (calls P (unrefused cs) fresh l) → Demand P l cs c
  unfolding record_at sum_below
  ran_demand cs e c q r s =
      let pos : c.last.position ≡ e = ap (λ (x : Record). x.position) r.last in
      let num : c.last.found ≡ found_below P e = ap (λ (x : Record). x.found) r.last in
      let rounds : rounds_by c.answers ≡ sum_below c.last.position P.rounds = rw pos (omega (arith, r.rounds)) in
      let b = stop_le P (length l) in
      record {
        entries = rw (num, r.list, pos) (list_at_found P l e);
        found = rw pos num;
        beyond = rw (num, r.list) (list_at_beyond P l e);
        size = rw r.list (list_at_length P l e (omega arith));
        position = pos ∙ q;
        tried = omega (arith, r.tried);
        rounds = rounds;
        bound = λ n h. rw rounds (sum_bound c.last.position P.rounds n (λ i g. h i (omega arith)));
        honest = r.honest;
        sound = rw (r.last, r.list) (reached_unspoilt P l e (omega arith));
        refused = r.refused;
        unchanged = s.last;
        untouched = s.list;
        unadded = s.reports;
      }

module _ (P : Problem) (l : List ℕ) (cs : List Call) where
  -- From the fresh record the calls lead as far as they are allowed.
  pub calls_reach : Ran P l cs 0 (min (stop P (length l)) (allowances cs)) (calls P cs fresh l)
  calls_reach =
      let e = min (stop P (length l)) (allowances cs) in
      let begins = ap₂ (calls P cs) (record_at_fresh P) (list_at_fresh P l) in
      subst (Ran P l cs 0 e) begins (calls_at P l cs 0 e (omega arith) (omega arith))

  -- Demand 3, of every list of calls from the fresh record over any lent list.
  pub pause : Demand P l cs (calls P cs fresh l)
  pause = ran_demand P l cs (min (stop P (length l)) (allowances cs)) (calls P cs fresh l) refl calls_reach (without_refused P cs fresh l)
