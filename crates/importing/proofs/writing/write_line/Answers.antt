-- `importing::writing::write_line` meets its contract.
use mathlib.Core.Path.{◌≡◌, refl, sym, ap, ◌∙◌}
use mathlib.Core.Bool.{Bool, true, false, not}
use Prim.Native.Nat.{ℕ, ◌+◌, ◌*◌}
use native.Mathlib.Omega.{arith}
use borrow.Author.Rules.{rules}
use lib.ListN.{length, take}
use Rattle.papers.specs.Encoding.{encode_numbers, encode_field}
use Rattle.papers.proofs.Sizes.{length_field}
use Rattle.papers.proofs.NumberLaws.{length_encoded}
use Rattle.text.specs.Briefly.{tag_byte, numbers_of}
use Rattle.importing.proofs.LineKinds.{same_kind, other_kind}
use Rattle.importing.proofs.RunWriting.{skips, here_own, count_fits, said, bytes_own, fills}
use Rattle.importing.proofs.writing.write_line.Goals as goal
use Rattle.importing.proofs.writing.write_line.Goals.{After-numbers_in-numbers}

not_true : (t : Bool) → not t ≡ true → t ≡ false
not_true true e = absurd (cc)
not_true false e = refl

not_false : (t : Bool) → not t ≡ false → t ≡ true
not_false true e = refl
not_false false e = absurd (cc)

pub returns-then-ne : goal.returns-then-ne
returns-then-ne c = skips c.requires (other_kind _ _ refl (not_true _ (sym c.ne.ensures ∙ c.if-ne.true))) c.args.buffer.now

-- ---- once its numbers are known

module _ (c : After-numbers_in-numbers) where
  own : tag_byte c.args.line.kind ≡ tag_byte c.args.kind
  own = same_kind _ _ refl (not_false _ (sym c.ne.ensures ∙ c.if-ne.false))

  -- The part that is lent is its numbers.
  taken : take c.args.line.count c.numbers_in-numbers.result ≡ numbers_of c.requires.line
  taken = said c.requires own c.numbers_in-numbers.ensures

pub slice_bounds-numbers-end : goal.slice_bounds-numbers-end
slice_bounds-numbers-end c = let f = count_fits c.requires (own (goal.at.slice_bounds-numbers-end c).After-numbers_in-numbers) in search rules

pub slice_bounds-write_field-end : goal.slice_bounds-write_field-end
slice_bounds-write_field-end c = let f = count_fits c.requires (own (goal.at.slice_bounds-write_field-end c).After-numbers_in-numbers) in search rules

pub write_field-requires : goal.write_field-requires
write_field-requires c =
    let f = count_fits c.requires (own (goal.at.write_field-requires c).After-numbers_in-numbers) in
    let l = ap length (taken (goal.at.write_field-requires c).After-numbers_in-numbers) in
    let ns = numbers_of c.requires.line in
    let size : length (encode_field (tag_byte c.args.kind) (encode_numbers ns)) ≡ 3 + 2 * length ns =
    length_field (tag_byte c.args.kind) (encode_numbers ns) ∙ ap (λ (k : ℕ). 3 + k) (length_encoded ns) in
    let fits = ap length (bytes_own c.requires (own (goal.at.write_field-requires c).After-numbers_in-numbers)) in
    (omega (arith, c.requires.fits), omega (arith, c.requires.small (here_own c.requires (own (goal.at.write_field-requires c).After-numbers_in-numbers))))

pub returns : goal.returns
returns c =
    let at = (goal.at.returns c).After-numbers_in-numbers in
    fills c.requires (own at) _ c.args.buffer.now (taken at) (rw c.tag.ensures at c.write_field.ensures)
