-- "For each objective literal rising, falsum last": the entries of 0 to 2n - 1, then that of 2n; and the bytes of one.
-- Assumes nothing.
use mathlib.Core.Path.{◌≡◌, refl, ap, ◌∙◌}
use mathlib.Core.List.{List, ◌∷◌, ◌++◌, map, append-nil, append_assoc}
use Prim.Native.Nat.{ℕ, zero, suc, ◌+◌}
use native.Mathlib.Omega.{arith}
use native.Mathlib.Nat.{zero-add, add-zero}
use Rattle.literals.specs.Numbering.{falsum}
use Rattle.papers.specs.Program.{Rule, Program, all_rules}
use Rattle.papers.specs.Encoding.{encode_numbers, encode_field}
use Rattle.dual.specs.Table.{folds_of, fold_field, entry, entry_if_any, entries_from, dual}
use Rattle.dual.specs.TableEncoding.{encode_fields}

-- The fields of folds.
abbrev pub fold_bytes : List Rule → List ℕ → List ℕ
fold_bytes rules folds = encode_fields (map (fold_field rules) folds)

-- An entry is the literal's field and its folds'.
pub entry_is :
    (p : Program) (o : ℕ)
    → encode_fields (entry p o) ≡ encode_field 0x08 (encode_numbers (o ∷ folds_of p o)) ++ fold_bytes (all_rules p) (folds_of p o)
unfolding encode_fields entry
entry_is p o = refl

-- The entries of one literal more end with that literal's.
entries_last : (p : Program) (count o : ℕ) → entries_from p (count + 1) o ≡ entries_from p count o ++ entry_if_any p (o + count)
unfolding entries_from
entries_last p zero o = rw (add-zero o) (append-nil (entry_if_any p o))
entries_last p (suc count) o =
    let s : suc count + 1 ≡ suc (count + 1) = omega arith in
    let e : o + 1 + count ≡ o + suc count = omega arith in
    rw (s, entries_last p count (o + 1), append_assoc, e)

pub entries_more : (p : Program) (o : ℕ) → entries_from p (o + 1) 0 ≡ entries_from p o 0 ++ entry_if_any p o
entries_more p o = entries_last p o 0 ∙ ap (λ (q : ℕ). entries_from p o 0 ++ entry_if_any p q) (zero-add o)

pub falsum_last : (p : Program) → dual p ≡ entries_from p (falsum p.atoms) 0 ++ entry_if_any p (falsum p.atoms)
unfolding dual
falsum_last p = entries_more p (falsum p.atoms)
