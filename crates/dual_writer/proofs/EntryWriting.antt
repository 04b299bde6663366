-- An entry, as the loop that writes it meets it.
-- Assumes nothing.
use mathlib.Core.Path.{◌≡◌, refl, sym, ap, subst, ◌∙◌}
use mathlib.Core.List.{List, [], ◌∷◌, ◌++◌, map, append_assoc, append-nil}
use Prim.Native.Nat.{ℕ, ◌+◌, ◌*◌, ◌≤◌, ◌<◌}
use native.Mathlib.Omega.{arith}
use lib.ListN.{length, get_or, take, drop, length-append, length-map}
use lib.Seq.{length-take-le}
use Rattle.std.proofs.Common.{Option, Some, None}
use Rattle.literals.specs.declared.Fold.{Fold}
use Rattle.literals.specs.BodyLiterals.{conjugate_number}
use Rattle.papers.specs.Program.{Rule, Program, all_rules, no_rule}
use Rattle.papers.specs.Encoding.{encode_numbers, encode_field}
use Rattle.papers.specs.Valid.{All}
use Rattle.papers.proofs.Lists.{first_of}
use Rattle.dual.specs.Table.{literal, folds_of, fold_field, entry}
use Rattle.dual.specs.Table as table
use Rattle.dual.specs.TableEncoding.{encode_fields}
use Rattle.dual_writer.specs.Chains.{number_from, Chain, folds_at, ChainsOf}
use Rattle.dual.specs.Bytes.{filled}
use Rattle.dual.proofs.AllEntries.{fold_bytes, entry_is}
use Rattle.dual.proofs.Folds.{FoldIn, folds_of_tell}
use Rattle.dual.proofs.Lengths.{length_one}
use Rattle.dual.proofs.ReadBack.{encode_fields_append}
use Rattle.dual_writer.proofs.ChainLaws.{Link, followed_is, Following, following_starts, following_done, following_link, following_next}
use Rattle.dual.proofs.FilledLaws.{filled_part, filled_again, filled_whole}

-- The field of one fold.
abbrev pub one_fold : List Rule → ℕ → List ℕ
one_fold rules k = encode_field 0x09 (encode_numbers (k ∷ map conjugate_number (get_or rules k no_rule).body))

map_append : {A B : Type 0} (f : A → B) (a b : List A) → map f (a ++ b) ≡ map f a ++ map f b
map_append f [] b = refl
map_append f (x ∷ a) b = ap (λ (l : List _). f x ∷ l) (map_append f a b)

module _ (rules : List Rule) where
  fold_cons : (k : ℕ) (more : List ℕ) → fold_bytes rules (k ∷ more) ≡ one_fold rules k ++ fold_bytes rules more
  unfolding encode_fields fold_field
  fold_cons k more = refl

  folds_append : (a b : List ℕ) → fold_bytes rules (a ++ b) ≡ fold_bytes rules a ++ fold_bytes rules b
  folds_append a b = ap encode_fields (map_append (fold_field rules) a b) ∙ encode_fields_append (map (fold_field rules) a) (map (fold_field rules) b)

  fold_more : (a : List ℕ) (k : ℕ) → fold_bytes rules (a ++ k ∷ []) ≡ fold_bytes rules a ++ one_fold rules k
  unfolding encode_fields
  fold_more a k = folds_append a (k ∷ []) ∙ ap (λ (x : List ℕ). fold_bytes rules a ++ x) (fold_cons k [] ∙ append-nil (one_fold rules k))

-- The chain of an objective literal has its folds.
pub folds_there : (p : Program) (first next : List (Option Fold)) (o : ℕ) → ChainsOf p first next → o < 513
    → folds_at next (get_or first o None) ≡ folds_of p o
folds_there p first next o c h = followed_is 1280 (get_or first o None) (omega arith) (c.at o h)

-- ---- the loop

-- The folds behind are written after the first `base` bytes.
pub record Entered (p : Program) (next : List (Option Fold)) (o base : ℕ) (start buffer : List ℕ) (fold : Option Fold) (end : ℕ) : Type 0 where
  pub count : ℕ
  pub follows : Following next (folds_of p o) fold count
  pub folds : All (FoldIn (all_rules p) o) follows.ahead
  pub ends : end ≡ base + length (fold_bytes (all_rules p) follows.done)
  pub written : buffer ≡ filled (take base start ++ fold_bytes (all_rules p) follows.done) start

pub entered_none : (p : Program) (next : List (Option Fold)) (o base : ℕ) (start : List ℕ) (fold : Option Fold)
    → base ≤ length start → Chain next fold (folds_of p o)
    → Entered p next o base start start fold base
unfolding following_starts encode_fields
entered_none p next o base start fold h c = record {
  count = 0;
  follows = following_starts c;
  folds = folds_of_tell p o;
  ends = omega arith;
  written = sym (filled_whole base start h);
}

module _ (p : Program) (next : List (Option Fold)) (o base : ℕ) (start buffer : List ℕ) (tip : Option Fold) (end : ℕ)
    (w : Entered p next o base start buffer tip end) (fits : base + length (fold_bytes (all_rules p) (folds_of p o)) ≤ length start) where
  -- The bytes of some folds.
  abbrev bytes_of : List ℕ → List ℕ
  bytes_of = fold_bytes (all_rules p)

  prefix : length (take base start ++ bytes_of w.follows.done) ≡ end
  prefix =
      let t = length-take-le base start (omega arith) in
      let a = length-append (take base start) (bytes_of w.follows.done) in
      omega (arith, w.ends)

  pub entered_done : tip ≡ None → (end ≡ base + length (bytes_of (folds_of p o))) × (buffer ≡ filled (take base start ++ bytes_of (folds_of p o)) start)
  entered_done h =
      let d = following_done next (folds_of p o) tip w.count w.follows h in
      (rw d.0 at w.ends, rw d.0 at w.written)

  module _ (fold : Fold) (some : tip ≡ Some fold) where
    abbrev linked : Link next fold w.follows.ahead
    linked = following_link next (folds_of p o) tip w.count w.follows fold some

    ahead : FoldIn (all_rules p) o fold.0 × All (FoldIn (all_rules p) o) linked.more
    ahead = first_of (subst (All (FoldIn (all_rules p) o)) linked.is w.folds)

    pub entered_fold : FoldIn (all_rules p) o fold.0
    entered_fold = ahead.0

    pub entered_few : fold.0 < 1280
    entered_few = linked.few

    pub entered_rises : fold.0 < number_from (get_or next fold.0 None)
    entered_rises = linked.rises

    -- There is room for this fold's field.
    pub entered_room : end + length (one_fold (all_rules p) fold.0) ≤ length start
    entered_room =
        let s = ap (λ (l : List ℕ). length (bytes_of l)) w.follows.split in
        let a = ap length (folds_append (all_rules p) w.follows.done w.follows.ahead) in
        let b = length-append (bytes_of w.follows.done) (bytes_of w.follows.ahead) in
        let c = ap (λ (l : List ℕ). length (bytes_of l)) linked.is in
        let d = ap length (fold_cons (all_rules p) fold.0 linked.more) in
        let e = length-append (one_fold (all_rules p) fold.0) (bytes_of linked.more) in
        omega (arith, w.ends)

    -- The part from `end` on is filled with it.
    pub entered_next : (part : List ℕ) (size : ℕ) → part ≡ filled (one_fold (all_rules p) fold.0) (drop end buffer)
        → size ≡ length (one_fold (all_rules p) fold.0)
        → Entered p next o base start (take end buffer ++ part) (get_or next fold.0 None) (end + size)
    unfolding following_next
    entered_next part size q s =
        let behind = bytes_of w.follows.done in
        let one = one_fold (all_rules p) fold.0 in
        let bytes = take base start ++ behind in
        let m : bytes_of (w.follows.done ++ fold.0 ∷ []) ≡ behind ++ one = fold_more (all_rules p) w.follows.done fold.0 in
        let n = ap length m in
        let a = length-append behind one in
        let joined = append_assoc (take base start) behind one ∙ ap (λ (x : List ℕ). take base start ++ x) (sym m) in
        record {
          count = w.count + 1;
          follows = following_next next (folds_of p o) tip w.count w.follows fold some;
          folds = ahead.1;
          ends = omega (arith, w.ends);
          written =
              ap (λ (x : List ℕ). take end buffer ++ x) q
              ∙ ap (λ (x : List ℕ). take end x ++ filled one (drop end x)) w.written
              ∙ ap (λ (k : ℕ). take k (filled bytes start) ++ filled one (drop k (filled bytes start))) (sym prefix)
              ∙ filled_part bytes one start
              ∙ ap (λ (x : List ℕ). filled x start) joined;
        }

-- ---- lengths

pub one_length : (rules : List Rule) (k : ℕ) → length (one_fold rules k) ≡ 5 + 2 * length (get_or rules k no_rule).body
one_length rules k =
    let l = length-map (get_or rules k no_rule).body conjugate_number in
    let m = length_one (table.fold k (map conjugate_number (get_or rules k no_rule).body)) in
    omega arith

pub entry_parts : (p : Program) (o : ℕ) → 5 + 2 * length (folds_of p o) + length (fold_bytes (all_rules p) (folds_of p o)) ≡ length (encode_fields (entry p o))
entry_parts p o =
    let a = ap length (entry_is p o) in
    let b = length-append (encode_field 0x08 (encode_numbers (o ∷ folds_of p o))) (fold_bytes (all_rules p) (folds_of p o)) in
    let m = length_one (literal o (folds_of p o)) in
    omega arith

-- The literal's field stands, and its folds' after it: the entry stands.
pub entry_written : (p : Program) (o base : ℕ) (buffer start entry' : List ℕ) → base ≡ 5 + 2 * length (folds_of p o)
    → length (encode_fields (entry p o)) ≤ length buffer
    → start ≡ filled (encode_field 0x08 (encode_numbers (o ∷ folds_of p o))) buffer
    → entry' ≡ filled (take base start ++ fold_bytes (all_rules p) (folds_of p o)) start
    → entry' ≡ filled (encode_fields (entry p o)) buffer
entry_written p o base buffer start entry' e h s w =
    let field = encode_field 0x08 (encode_numbers (o ∷ folds_of p o)) in
    let m : length field ≡ base = let l = length_one (literal o (folds_of p o)) in omega arith in
    let parts = entry_parts p o in
    w
    ∙ ap (λ (b : List ℕ). filled (take base b ++ fold_bytes (all_rules p) (folds_of p o)) b) s
    ∙ ap (λ (k : ℕ). filled (take k (filled field buffer) ++ fold_bytes (all_rules p) (folds_of p o)) (filled field buffer)) (sym m)
    ∙ filled_again field (fold_bytes (all_rules p) (folds_of p o)) buffer (omega arith)
    ∙ ap (λ (x : List ℕ). filled x buffer) (sym (entry_is p o))
