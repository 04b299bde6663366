-- The first pass: the atom count of the lines that were read.
-- Assumes nothing.
use mathlib.Core.Path.{◌≡◌, refl, sym, ap, ◌∙◌}
use mathlib.Core.List.{List, [], ◌∷◌, ◌++◌}
use Prim.Native.Nat.{ℕ}
use Rattle.text.specs.declared.line.Brief.{Brief}
use Rattle.text.specs.Lines.{TextRefusal}
use Rattle.text.specs.Lines.{Reading, accepted, refused, Line, fresh, lines_of}
use Rattle.text.specs.Typed.{named_in, larger, count_of, program_typed}
use Rattle.text.specs.Briefly.{brief}
use Rattle.text.specs.LineAnswers.{lines_at, LineEnds}
use Rattle.text.proofs.BriefLaws.{count_append, named_append}
use Rattle.importing.specs.Passes.{lines_in, Typed, typed, survey_answer}
use Rattle.importing.proofs.LinesWalked.{LinesRead, lines_start, lines_over, lines_refused, lines_on}

pub record Surveying (text : List ℕ) (at atoms : ℕ) : Type 0 where
  pub done : List Line
  pub walked : LinesRead text done at
  pub counted : atoms ≡ count_of (named_in done)

pub survey_start : (text : List ℕ) → Surveying text 0 1
unfolding named_in count_of
survey_start text = record { done = []; walked = lines_start text; counted = refl }

above_is : (line : Line) → (brief line).above ≡ count_of (named_in (line ∷ []))
unfolding brief
above_is line = refl

module _ {text : List ℕ} {at atoms : ℕ} (g : Surveying text at atoms) where
  pub survey_over : lines_at text fresh at ≡ accepted [] → accepted atoms ≡ survey_answer (lines_of text)
  survey_over e = ap accepted g.counted ∙ ap survey_answer (sym (lines_over g.walked e))

  pub survey_refused : {r : TextRefusal} → lines_at text fresh at ≡ refused r → refused r ≡ survey_answer (lines_of text)
  survey_refused e = ap survey_answer (sym (lines_refused g.walked e))

  pub survey_on : {b : Brief} {after n : ℕ} → LineEnds text fresh at b after → n ≡ larger atoms b.above → Surveying text after n
  survey_on {b} {after} {n} m q =
      let here = ap (λ (x : Brief). x.above) m.briefly ∙ above_is m.line in
      record {
        done = g.done ++ (m.line ∷ []);
        walked = lines_on g.walked m;
        counted =
            q
            ∙ ap (λ (x : ℕ). larger x b.above) g.counted
            ∙ ap (larger (count_of (named_in g.done))) here
            ∙ sym (count_append (named_in g.done) (named_in (m.line ∷ [])))
            ∙ ap count_of (sym (named_append g.done (m.line ∷ [])));
      }

-- ---- what the answer tells

module _ (text : List ℕ) where
  pub surveyed_refused : {r : TextRefusal} → refused r ≡ survey_answer (lines_of text) → lines_of text ≡ refused r
  surveyed_refused {r} e = go (lines_of text) e
    where
      go : (o : Reading (List Line)) → refused r ≡ survey_answer o → o ≡ refused r
      go (accepted lines) e = absurd (cc)
      go (refused x) e = let same : x ≡ r = cc in ap refused same

  module _ {n : ℕ} (e : accepted n ≡ survey_answer (lines_of text)) where
    lines_of_lem : (o : Reading (List Line)) → lines_of text ≡ o → accepted n ≡ survey_answer o → (Typed text) × (n ≡ count_of (named_in (lines_in text)))
    unfolding lines_in
    lines_of_lem (accepted lines) q f =
        let same : lines_in text ≡ lines = rw q in
        let k : n ≡ count_of (named_in lines) = cc in
        (q ∙ ap accepted (sym same), k ∙ ap (λ (l : List Line). count_of (named_in l)) (sym same))
    lines_of_lem (refused r) q f = absurd (cc)

    pub surveyed_read : Typed text
    surveyed_read = (lines_of_lem (lines_of text) refl e).0

    pub surveyed_atoms : n ≡ (typed text).atoms
    unfolding program_typed
    surveyed_atoms = (lines_of_lem (lines_of text) refl e).1
