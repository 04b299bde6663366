-- What the answers tell: falsum has none, and what each says of the number asked about. Assumes nothing.
use Prim.Native.Nat.{ℕ, ◌*◌, ◌≤◌, ◌<◌}
use mathlib.Core.Path.{◌≡◌, refl}
use mathlib.Core.Bool.{Bool, true, false, cond, true≢false}
use borrow.Author.Tests.{ltb-true, ltb-false, lt-ltb, le-ltb}
use lib.Dec.{ltb}
use Rattle.std.specs.Prelude.{Some, None}
use Rattle.literals.specs.Numbering.{atom_number, explicit_conjugate, literal, default_negation, default_conjugate, falsum}
use Rattle.literals.specs.Numbering.{literal_form, listed_form}
use Rattle.literals.specs.declared.Atom.{Atom}
use Rattle.literals.specs.declared.Literal.{Literal}
use Rattle.literals.specs.declared.Objective.{Objective}
use Rattle.literals.specs.declared.forms.Form.{Form}
use Rattle.literals.proofs.NumberingLaws.{falsum_unlisted}
use Rattle.conjugates.specs.Conjugates.{atom_of, conjugate_of, literal_of, default_negation_of, default_conjugate_of}

-- ---- falsum

pub falsum_no_atom : (n : ℕ) → atom_of n (falsum n) ≡ None
falsum_no_atom n = rw (falsum_unlisted n)

pub falsum_no_conjugate : (n : ℕ) → conjugate_of n (falsum n) ≡ None
falsum_no_conjugate n = rw (falsum_unlisted n)

pub falsum_no_literal : (n : ℕ) → literal_of n (falsum n) ≡ None
falsum_no_literal n = rw (falsum_unlisted n)

pub falsum_no_default_negation : (n : ℕ) → default_negation_of n (falsum n) ≡ None
falsum_no_default_negation n = rw (falsum_unlisted n)

-- ---- what an answer tells of the number asked about

module _ {A : Type 0} (bound o : ℕ) (x : A) where
  answered : {y : A} → cond (ltb o bound) (Some x) None ≡ Some y → (o < bound) × (x ≡ y)
  answered {y} h = go (ltb o bound) refl
    where
      go : (t : Bool) → ltb o bound ≡ t → (o < bound) × (x ≡ y)
      go true e = let k : Some x ≡ Some y = rw e at h in (ltb-true o bound e, cc)
      go false e = let k : None ≡ Some y = rw e at h in absurd (true≢false cc)

  unanswered : cond (ltb o bound) (Some x) None ≡ None → bound ≤ o
  unanswered h = go (ltb o bound) refl
    where
      go : (t : Bool) → ltb o bound ≡ t → bound ≤ o
      go true e = let k : Some x ≡ None = rw e at h in absurd (true≢false cc)
      go false e = ltb-false o bound e

module _ (n o : ℕ) where
  pub atom_tells : {a : Atom} → atom_of n o ≡ Some a → (o < 2 * n) × (a.0 ≡ atom_number o)
  atom_tells h =
      let w = answered (2 * n) o (record { 0 = atom_number o }) h in
      (w.0, cc)

  pub no_atom_tells : atom_of n o ≡ None → 2 * n ≤ o
  no_atom_tells h = unanswered (2 * n) o (record { 0 = atom_number o }) h

  pub conjugate_tells : {p : Objective} → conjugate_of n o ≡ Some p → (o < 2 * n) × (p.0 ≡ explicit_conjugate o)
  conjugate_tells h =
      let w = answered (2 * n) o (record { 0 = explicit_conjugate o }) h in
      (w.0, cc)

  pub no_conjugate_tells : conjugate_of n o ≡ None → 2 * n ≤ o
  no_conjugate_tells h = unanswered (2 * n) o (record { 0 = explicit_conjugate o }) h

  pub literal_tells : {l : Literal} → literal_of n o ≡ Some l → (o < 2 * n) × (l.0 ≡ literal o)
  literal_tells h =
      let w = answered (2 * n) o (record { 0 = literal o }) h in
      (w.0, cc)

  pub no_literal_tells : literal_of n o ≡ None → 2 * n ≤ o
  no_literal_tells h = unanswered (2 * n) o (record { 0 = literal o }) h

  pub default_negation_tells : {l : Literal} → default_negation_of n o ≡ Some l → (o < 2 * n) × (l.0 ≡ default_negation o)
  default_negation_tells h =
      let w = answered (2 * n) o (record { 0 = default_negation o }) h in
      (w.0, cc)

  pub no_default_negation_tells : default_negation_of n o ≡ None → 2 * n ≤ o
  no_default_negation_tells h =
      unanswered (2 * n) o (record { 0 = default_negation o }) h

  pub conjugate_made : o < 2 * n → {p : Objective} → p.0 ≡ explicit_conjugate o → Some p ≡ conjugate_of n o
  conjugate_made h {p} e = rw (lt-ltb o (2 * n) h, ← e)

  pub no_conjugate_made : 2 * n ≤ o → None ≡ conjugate_of n o
  no_conjugate_made h = rw (le-ltb o (2 * n) h)

module _ (n l : ℕ) where
  pub form_tells : {f : Form} → listed_form n l ≡ Some f → (l < 4 * n) × (f ≡ literal_form l)
  form_tells h =
      let w = answered (4 * n) l (literal_form l) h in
      (w.0, cc)

  pub no_form_tells : listed_form n l ≡ None → 4 * n ≤ l
  no_form_tells h = unanswered (4 * n) l (literal_form l) h

  pub default_conjugate_made : l < 4 * n → {m : Literal} → m.0 ≡ default_conjugate l → Some m ≡ default_conjugate_of n l
  default_conjugate_made h {m} e = rw (lt-ltb l (4 * n) h, ← e)

  pub no_default_conjugate_made : 4 * n ≤ l → None ≡ default_conjugate_of n l
  no_default_conjugate_made h = rw (le-ltb l (4 * n) h)

  pub default_conjugate_tells : {m : Literal} → default_conjugate_of n l ≡ Some m → (l < 4 * n) × (m.0 ≡ default_conjugate l)
  default_conjugate_tells h =
      let w = answered (4 * n) l (record { 0 = default_conjugate l }) h in
      (w.0, cc)

  pub no_default_conjugate_tells : default_conjugate_of n l ≡ None → 4 * n ≤ l
  no_default_conjugate_tells h = unanswered (4 * n) l (record { 0 = default_conjugate l }) h
