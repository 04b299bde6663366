-- Arrays that are written from their start on, and visits in an order that was tested. Assumes nothing.
use mathlib.Core.Path.{◌≡◌, ap, ◌∙◌}
use mathlib.Core.List.{List}
use Prim.Native.Nat.{ℕ, ◌+◌, ◌<◌}
use native.Mathlib.Omega.{arith}
use lib.ListN.{length, get_or, set, length-set}
use lib.Seq.{get_or-set_other}
use Rattle.papers.proofs.Lists.{set_more}
use Rattle.rows.specs.Visits.{Visits}
use Rattle.ordering.specs.Orders.{Ordered, Written, start_at}

-- ---- writing

-- One number more.
pub written_more : {number : ℕ → ℕ} {i : ℕ} {before after : List ℕ} (v : ℕ) → i < length after → v ≡ number i → Written number i before after
    → Written number (i + 1) before (set after i v)
written_more {number = number} {i = i} {after = after} v h e w = record {
  at = set_more after i v number h e w.at;
  stays = record {
    sized = length-set after i v ∙ w.stays.sized;
    beyond = λ k b. get_or-set_other after i k v 0 (λ q. omega arith) ∙ w.stays.beyond k (omega arith);
  };
}

-- ---- orders

-- Whoever visits the rows in such an order visits every row and nothing else.
pub visits_all : {count : ℕ} {order ranks starts before visits : List ℕ} → Ordered count order ranks
    → Written (start_at order starts) count before visits → Visits count starts visits
visits_all {order = order} {ranks = ranks} {starts = starts} o w = record {
  row_of = λ visit. get_or order visit 0;
  visit_of = λ row. get_or ranks row 0;
  each = λ visit h. record { row_below = (o.placed visit h).row_below; visit_below = h; meets = w.at visit h };
  every = λ row h. record {
    row_below = h;
    visit_below = (o.placed row h).rank_below;
    meets = w.at (get_or ranks row 0) (o.placed row h).rank_below ∙ ap (λ (n : ℕ). get_or starts n 0) (o.placed row h).at_rank;
  };
}
