-- The bytes of the first lane, and that they are the model's.
-- Assumes nothing.
use mathlib.Core.Path.{◌≡◌, sym, ap, ap₂, ◌∙◌}
use mathlib.Core.List.{List, ◌++◌}
use Prim.Native.Nat.{ℕ, ◌+◌, ◌<◌}
use native.Mathlib.Omega.{arith}
use lib.ListN.{length, get_or, drop}
use lib.Seq.{ext_get_or}
use Rattle.literals.specs.Numbering.{judged}
use Rattle.papers.specs.Program.{Program}
use Rattle.dual.specs.Bytes.{filled}
use Rattle.model.specs.Model.{model, value_byte, value_bytes, model_bytes}
use Rattle.lanes.specs.Lanes.{lane_bit, lane}
use Rattle.settling.specs.RoundLanes.{SettledLanes}
use Rattle.lanes.proofs.LaneLaws.{sized, has_lane}
use Rattle.model.proofs.ByteLaws.{bytes_length, bytes_at}

-- The bytes of the first lane, of the first n literals.
module _ (trues falses : List ℕ) (n : ℕ) where
  abbrev values : List ℕ
  values = value_bytes (lane n 0 trues) (lane n 0 falses)

  long : length values ≡ n
  long = bytes_length n (lane n 0 trues) (lane n 0 falses) (sized n 0 trues) (sized n 0 falses)

  -- Each is the byte of its literal,
  pub valued : (after : List ℕ) → length after ≡ n
      → ((j : ℕ) → j < n → get_or after j 0 ≡ value_byte (lane_bit 0 (get_or trues j 0)) (lane_bit 0 (get_or falses j 0))) → after ≡ values
  valued after size at = ext_get_or 0 after values (size ∙ sym long) (λ j k.
      let l : j < n = omega (arith, k) in
      at j l
      ∙ sym
      (bytes_at (lane n 0 trues) (lane n 0 falses) j (let z = sized n 0 trues in omega arith) (let z = sized n 0 falses in omega arith)
      ∙ ap₂ value_byte (has_lane n 0 j trues l) (has_lane n 0 j falses l)))

  -- and past them a buffer stays.
  pub valued_filled : (after before : List ℕ) → length after ≡ n
      → ((j : ℕ) → j < n → get_or after j 0 ≡ value_byte (lane_bit 0 (get_or trues j 0)) (lane_bit 0 (get_or falses j 0)))
      → after ++ drop n before ≡ filled values before
  valued_filled after before size at = rw (valued after size at, long)

module _ (p : Program) (base : ℕ) (trues falses counts : List ℕ) (s : SettledLanes p base trues falses counts) where
  -- The bytes of the first lane are the model's.
  pub first_bytes : value_bytes (lane (judged p.atoms) 0 trues) (lane (judged p.atoms) 0 falses) ≡ model_bytes p base
  unfolding model_bytes
  first_bytes =
      ap₂ value_bytes (s.true_in 0 (omega arith) ∙ ap (λ (x : ℕ). (model p x).trues) here)
      (s.false_in 0 (omega arith) ∙ ap (λ (x : ℕ). (model p x).falses) here)
    where
      here : base + 0 ≡ base
      here = omega arith
