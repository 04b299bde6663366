-- What the desk program hands to `write`.
-- Assumes nothing.
use mathlib.Core.Path.{◌≡◌, ◌∙◌}
use mathlib.Core.List.{List, ◌++◌}
use Prim.Native.Nat.{ℕ, ◌+◌, ◌≤◌}
use native.Mathlib.Omega.{arith}
use native.Mathlib.Nat.{zero-add}
use lib.ListN.{length, take, drop}
use lib.Seq.{take-append_seam}
use Rattle.decimals.specs.Text.{Put}
use Rattle.decimals.proofs.Putting.{written_fits}

-- Of a text put at a buffer's start that ends within it, the bytes before the end are the text: not one more, and not one less.
pub handed_on : {text buffer : List ℕ} {end : ℕ} {after : List ℕ} → Put 0 text buffer end after → end ≤ length buffer → take end after ≡ text
handed_on {text} {buffer} {end} {after} put h =
    let e : end ≡ length text = put.place ∙ zero-add (length text) in
    let fits = written_fits 0 text buffer (let p = put.place in omega arith) in
    let bytes : after ≡ text ++ drop (0 + length text) buffer = put.bytes ∙ fits in
    rw (e, bytes) (take-append_seam text (drop (0 + length text) buffer))
