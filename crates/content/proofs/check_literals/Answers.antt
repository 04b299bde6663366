-- `content::check_literals` meets its contract. The loop's invariant: what is asked of all literals is asked of those from the i-th on.
use mathlib.Core.Path.{◌≡◌, refl, sym, ap, ◌∙◌}
use mathlib.Core.List.{List, ◌++◌}
use Prim.Native.Nat.{ℕ, ◌+◌, ◌-◌, ◌*◌, ◌/◌, ◌<◌}
use native.Mathlib.Omega.{arith}
use lib.ListN.{length, length-drop, drop, take}
use lib.Seq.{length-take-le, drop-drop}
use Rattle.std.proofs.Common.{take-append-drop}
use Rattle.papers.specs.Field.{numbers}
use Rattle.papers.specs.Content.{literals_fault}
use Rattle.papers.specs.Told.{check_told}
use Rattle.papers.proofs.NumbersWalked.{literals_done, literals_stop, literals_next}
use Rattle.content.proofs.check_literals.Goals as goal

-- The i-th pair of the content, cut off what is left from there on.
module _ (content : List ℕ) (i k : ℕ) (pair_size : k ≡ 2) (inside : i < length content / 2) where
  abbrev left : List ℕ
  left = drop (2 * i) content

  two : length (take k left) ≡ 2
  two = let e = length-drop (2 * i) content in length-take-le k left (omega arith) ∙ pair_size

  cut : left ≡ take k left ++ drop k left
  cut = sym (take-append-drop k left)

  after : drop k left ≡ drop (2 * (i + 1)) content
  after = let e : 2 * i + k ≡ 2 * (i + 1) = omega arith in drop-drop k (2 * i) content ∙ ap (λ (n : ℕ). drop n content) e

pub returns-then-not-is_allowed : goal.returns-then-not-is_allowed
unfolding check_told
returns-then-not-is_allowed c =
    let a = c.args in
    let l = c.loop-i in
    let unlisted = sym c.is_allowed.ensures ∙ c.if-not-is_allowed.true in
    let size : 2 * l.i + 2 - 2 * l.i ≡ 2 = omega arith in
    let here = cut a.content.now l.i _ size c.loop-i-test.true in
    sym (l.invariant ∙ literals_stop a.atoms _ _ _ here (two a.content.now l.i _ size c.loop-i-test.true) refl a.in_body unlisted)

pub loop-i-preserved : goal.loop-i-preserved
loop-i-preserved c =
    let a = c.args in
    let l = c.loop-i in
    let listed = sym c.is_allowed.ensures ∙ c.if-not-is_allowed.false in
    let size : 2 * l.i + 2 - 2 * l.i ≡ 2 = omega arith in
    let here = cut a.content.now l.i _ size c.loop-i-test.true in
    let next = literals_next a.atoms _ _ _ here (two a.content.now l.i _ size c.loop-i-test.true) refl a.in_body listed in
    l.invariant ∙ next ∙ ap (λ (rest : List ℕ). literals_fault a.in_body a.atoms (numbers rest)) (after a.content.now l.i _ size c.loop-i-test.true)

pub returns : goal.returns
unfolding check_told
returns c =
    let a = c.args in
    let e = length-drop (2 * c.loop-i.i) a.content.now in
    sym (c.loop-i.invariant ∙ literals_done a.atoms _ (omega arith) a.in_body)
