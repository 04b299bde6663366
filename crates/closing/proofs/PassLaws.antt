-- Passes over rows, as the loops meet them.
-- Assumes nothing.
use mathlib.Core.Path.{refl, sym, subst, ◌∙◌}
use mathlib.Core.Bool.{Bool, true, false, ◌||◌, true≢false}
use mathlib.Core.List.{List}
use Prim.Native.Nat.{ℕ, ◌<◌}
use native.Mathlib.Omega.{arith}
use Rattle.closing.specs.Passes.{Passing}

pub passing_none : {left_over : List ℕ → ℕ} {words : List ℕ} → Passing left_over words words false
passing_none = record { same = λ e. refl; less = λ e. absurd (true≢false (sym e)) }

pub passing_then : {left_over : List ℕ → ℕ} {before words after : List ℕ} (changed more : Bool)
    → Passing left_over before words changed → Passing left_over words after more → Passing left_over before after (changed || more)
passing_then true true p q = record {
  same = λ e. absurd (true≢false e);
  less = λ e. let a = p.less refl in let b = q.less refl in omega arith;
}
passing_then {left_over} {before} true false p q = record {
  same = λ e. absurd (true≢false e);
  less = λ e. subst (λ (w : List ℕ). left_over w < left_over before) (sym (q.same refl)) (p.less refl);
}
passing_then {left_over} {after = after} false true p q = record {
  same = λ e. absurd (true≢false e);
  less = λ e. subst (λ (w : List ℕ). left_over after < left_over w) (p.same refl) (q.less refl);
}
passing_then false false p q = record { same = λ e. q.same refl ∙ p.same refl; less = λ e. absurd (true≢false (sym e)) }
