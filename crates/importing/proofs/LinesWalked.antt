-- The lines of a text, one by one, as every pass meets them.
-- Assumes nothing.
use mathlib.Core.Path.{◌≡◌, refl, sym, ap, ◌∙◌}
use mathlib.Core.List.{List, [], ◌∷◌, ◌++◌, map, append_assoc, append-nil}
use Prim.Native.Nat.{ℕ, ◌≤◌}
use native.Mathlib.Omega.{arith}
use lib.ListN.{length}
use Rattle.std.proofs.Common.{Option, None, Some, Result, Ok, Err}
use Rattle.text.specs.Lines.{TextRefusal}
use Rattle.text.specs.declared.TextRefusal as answer
use Rattle.text.specs.declared.line.Brief.{Brief}
use Rattle.text.specs.Lines.{Reading, accepted, refused, and_then, Line, fresh, lines_of}
use Rattle.text.specs.Typed.{Placed, its}
use Rattle.text.specs.LineAnswers.{lines_at, LineTells, LineEnds}
use Rattle.text.proofs.Readings.{refused_not, through}
use Rattle.importing.specs.Passes.{lines_in, Typed}

pub its_append : {A : Type 0} (xs ys : List (Placed A)) → map its (xs ++ ys) ≡ map its xs ++ map its ys
its_append [] ys = refl
its_append (x ∷ xs) ys = ap (λ more. x.it ∷ more) (its_append xs ys)

-- The text's lines are those done and those from here on.
pub record LinesRead (text : List ℕ) (done : List Line) (at : ℕ) : Type 0 where
  pub within : at ≤ length text
  pub reads : lines_of text ≡ and_then (lines_at text fresh at) (λ rest. accepted (done ++ rest))

all_accepted : (o : Reading (List Line)) → o ≡ and_then o (λ rest. accepted ([] ++ rest))
all_accepted (accepted lines) = refl
all_accepted (refused r) = refl

one_further : (done : List Line) (line : Line) (o : Reading (List Line))
    → and_then (and_then o (λ lines. accepted (line ∷ lines))) (λ rest. accepted (done ++ rest))
    ≡ and_then o (λ rest. accepted ((done ++ (line ∷ [])) ++ rest))
one_further done line (accepted lines) = ap accepted (sym (append_assoc done (line ∷ []) lines))
one_further done line (refused r) = refl

same_lines : {a b : List Line} → ◌≡◌ {A = Reading (List Line)} (accepted a) (accepted b) → a ≡ b
same_lines e = cc

pub lines_start : (text : List ℕ) → LinesRead text [] 0
lines_start text = record { within = omega arith; reads = all_accepted (lines_of text) }

module _ {text : List ℕ} {done : List Line} {at : ℕ} (g : LinesRead text done at) where
  pub lines_over : lines_at text fresh at ≡ accepted [] → lines_of text ≡ accepted done
  lines_over end =
      g.reads ∙ ap (λ (o : Reading (List Line)). and_then o (λ rest. accepted (done ++ rest))) end ∙ ap accepted (append-nil done)

  pub lines_refused : {r : TextRefusal} → lines_at text fresh at ≡ refused r → lines_of text ≡ refused r
  lines_refused end =
      g.reads ∙ ap (λ (o : Reading (List Line)). and_then o (λ rest. accepted (done ++ rest))) end

  pub lines_on : {b : Brief} {after : ℕ} (m : LineEnds text fresh at b after) → LinesRead text (done ++ (m.line ∷ [])) after
  lines_on {b} {after} m = record {
    within = m.within;
    reads =
        g.reads
        ∙ ap (λ (o : Reading (List Line)). and_then o (λ rest. accepted (done ++ rest))) m.reads
        ∙ one_further done m.line (lines_at text fresh after);
  }

-- No line was read.
pub lines_none : (text : List ℕ) (at : ℕ) {got : Option (Brief × ℕ)} → LineTells text fresh at (Ok got) → got ≡ None → lines_at text fresh at ≡ accepted []
lines_none text at told e = rw e at told

-- ---- of a text that was read

module _ (text : List ℕ) (typed : Typed text) where
  -- All the lines: those done and the rest.
  pub lines_split : {done : List Line} {at : ℕ} → LinesRead text done at → (rest : List Line) × (lines_in text ≡ done ++ rest)
  lines_split {done} {at} g =
      let t = through (lines_at text fresh at) (λ rest. accepted (done ++ rest)) (sym g.reads ∙ typed) in
      (t.value, sym (same_lines t.after))

  pub all_done : {done : List Line} → lines_of text ≡ accepted done → lines_in text ≡ done
  all_done e = same_lines (sym typed ∙ e)

  pub no_refusal : {X : Type 0} {r : TextRefusal} → lines_of text ≡ refused r → X
  no_refusal e = refused_not (sym e ∙ typed)

  -- What is read is no line: the lines are over.
  pub lines_end : {done : List Line} {at : ℕ} → LinesRead text done at → (got : Result (Option (Brief × ℕ)) answer.TextRefusal) → LineTells text fresh at got
      → ((line : Brief × ℕ) → got ≡ Ok (Some line) → ⊥) → lines_of text ≡ accepted done
  lines_end {done} {at} g got told k = go got refl
    where
      go : (x : Result (Option (Brief × ℕ)) answer.TextRefusal) → got ≡ x → lines_of text ≡ accepted done
      go (Ok (Some line)) e = absurd (k line e)
      go (Ok None) e = lines_over g (rw e at told)
      go (Err r) e = no_refusal (lines_refused g (rw e at told))
