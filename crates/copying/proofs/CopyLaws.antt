-- The two-byte numbers of bytes, as the loop that copies them meets them.
-- Assumes nothing.
use mathlib.Core.Path.{◌≡◌, refl, sym, ap, ◌∙◌}
use mathlib.Core.List.{List, [], ◌∷◌, ◌++◌, append-nil, append_assoc}
use Prim.Native.Nat.{ℕ, ◌+◌, ◌*◌, ◌/◌, ◌≤◌, ◌<◌}
use native.Mathlib.Omega.{arith}
use lib.ListN.{length, drop, set, length-append, length-set}
use Rattle.papers.specs.Field.{number_in, numbers}
use Rattle.papers.proofs.NumbersWalked.{read_number, no_number}
use Rattle.copying.specs.Laid.{laid}
use Rattle.copying.proofs.LaidLaws.{laid_none, laid_one}

-- The first i are copied; the others are still to come.
pub record CopiedTo (bytes before : List ℕ) (at i : ℕ) (values : List ℕ) : Type 0 where
  pub copied : List ℕ
  pub counted : length copied ≡ i
  pub split : copied ++ numbers (drop (2 * i) bytes) ≡ numbers bytes
  pub laid_so : values ≡ laid at copied before
  pub kept : length values ≡ length before

module _ (bytes before : List ℕ) (at : ℕ) (room : at + length (numbers bytes) ≤ length before) where
  pub copied_none : CopiedTo bytes before at 0 before
  copied_none = record { copied = []; counted = refl; split = refl; laid_so = sym (laid_none at before (omega arith)); kept = refl }

  module _ (i : ℕ) (values : List ℕ) (c : CopiedTo bytes before at i values) where
    pub copied_all : length bytes / 2 ≤ i → values ≡ laid at (numbers bytes) before
    copied_all h =
        let none : c.copied ++ numbers (drop (2 * i) bytes) ≡ c.copied =
        ap (λ (l : List ℕ). c.copied ++ l) (no_number bytes i h) ∙ append-nil c.copied in
        c.laid_so ∙ ap (λ (l : List ℕ). laid at l before) (sym none ∙ c.split)

    module _ (here : i < length bytes / 2) where
      -- There is room for one more,
      pub copied_room : at + i < length values
      copied_room =
          let one = read_number bytes i here refl in
          let s = ap length c.split in
          let a = length-append c.copied (numbers (drop (2 * i) bytes)) in
          let l = ap length one in
          omega (arith, c.counted, c.kept)

      -- and it is copied.
      pub copied_more : {x : ℕ} → x ≡ number_in bytes (2 * i) → CopiedTo bytes before at (i + 1) (set values (at + i) x)
      copied_more {x} e = record {
        copied = c.copied ++ x ∷ [];
        counted = let a = length-append c.copied (x ∷ []) in omega (arith, c.counted);
        split =
            append_assoc c.copied (x ∷ []) (numbers (drop (2 * (i + 1)) bytes))
            ∙ ap (λ (l : List ℕ). c.copied ++ l) (sym (read_number bytes i here e))
            ∙ c.split;
        laid_so =
            ap (λ (l : List ℕ). set l (at + i) x) c.laid_so
            ∙ laid_one at c.copied before (at + i) x (omega (arith, c.counted)) (omega (arith, copied_room, c.kept));
        kept = length-set values (at + i) x ∙ c.kept;
      }
