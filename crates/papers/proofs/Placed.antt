-- Where a refusal lies: in the paper that was read, and no further than its end.
-- Assumes nothing.
use mathlib.Core.Path.{◌≡◌, refl, sym, ap, ◌∙◌}
use mathlib.Core.Bool.{Bool, true, false, cond}
use mathlib.Core.List.{List}
use Prim.Native.Nat.{ℕ, zero, suc, ◌+◌, ◌≤◌}
use native.Mathlib.Omega.{arith}
use lib.Dec.{eqb}
use lib.ListN.{length, get_or, drop}
use Rattle.papers.specs.declared.Paper.{Paper}
use Rattle.papers.specs.declared.Paper.TheVariants.{File, Sheet}
use Rattle.papers.specs.Program.{Program, Query}
use Rattle.papers.specs.Outcome.{Refusal, Outcome, accepted, refused, refusal, check, passing, and_then}
use Rattle.papers.specs.Field.{numbers, content_of, field_fault, read_field}
use Rattle.papers.specs.Content.{edition_fault, atoms_fault, abducibles_fault, literals_fault, body_fault}
use Rattle.papers.specs.Reading.{read_edition, read_atoms, read_abducibles, first_rule, one_more, read_run, read_end, read_rules, read_file}
use Rattle.papers.specs.Reading.{read_sheet, Papers, read_papers}
use Rattle.papers.specs.Answers.{paper_of}
use Rattle.papers.proofs.Checks.{refused_not}
use Rattle.papers.proofs.FieldLaws.{field_tells}
use Rattle.papers.proofs.RunLaws.{run_tells}
use Rattle.papers.proofs.Accepted.{edition_read, atoms_read, abducibles_read}

pub record Placed {A : Type 0} (paper : Paper) (bytes : List ℕ) (o : Outcome A) : Type 0 where
  pub at : (r : Refusal) → o ≡ refused r → (r.paper ≡ paper) × (r.place ≤ length bytes)

-- ---- how readers are put together

module _ {A : Type 0} (paper : Paper) (bytes : List ℕ) where
  placed_accepted : (a : A) → Placed paper bytes (accepted a)
  placed_accepted a = record { at = λ r e. refused_not (sym e) }

  placed_passing : (n place : ℕ) (next : Outcome A) → place ≤ length bytes → Placed paper bytes next → Placed paper bytes (passing n paper place next)
  placed_passing zero place next h p = p
  placed_passing (suc n) place next h p = record {
    at = λ r e.
        let q : refusal (suc n) paper place ≡ r = cc in
        let z = ap (λ (x : Refusal). x.place) q in
        (sym (ap (λ (x : Refusal). x.paper) q), omega arith);
  }

  placed_cond : (b : Bool) {x y : Outcome A} → Placed paper bytes x → Placed paper bytes y → Placed paper bytes (cond b x y)
  placed_cond true p q = p
  placed_cond false p q = q

module _ {A B : Type 0} (paper : Paper) (bytes : List ℕ) where
  placed_then : (o : Outcome A) (next : A → Outcome B) → Placed paper bytes o → ((a : A) → o ≡ accepted a → Placed paper bytes (next a))
      → Placed paper bytes (and_then o next)
  placed_then (accepted a) next p q = q a refl
  placed_then (refused r) next p q = record { at = λ s e. p.at s (let z : r ≡ s = cc in ap refused z) }

-- ---- the readers

placed_field : (paper : Paper) (tag : ℕ) (full : Bool) (place : ℕ) (bytes : List ℕ) → place ≤ length bytes
    → Placed paper bytes (read_field paper tag full place bytes)
unfolding read_field
placed_field paper tag full place bytes h =
    placed_passing paper bytes (field_fault tag full (drop place bytes)) place (accepted (content_of (drop place bytes))) h (placed_accepted paper bytes _)

placed_end : (paper : Paper) (place : ℕ) (bytes : List ℕ) → place ≤ length bytes → Placed paper bytes (read_end paper place bytes)
unfolding read_end
placed_end paper place bytes h =
    placed_then paper bytes (read_field paper 0x7F false place bytes) _ (placed_field paper 0x7F false place bytes h)
    (λ content e.
    let w = (field_tells paper 0x7F false place bytes content e).within in
    placed_passing paper bytes (check (eqb (length bytes) (place + 3)) 10 0) (place + 3) (accepted (place + 3)) (omega arith) (placed_accepted paper bytes _))

module _ (bytes : List ℕ) where
  placed_edition : Placed File bytes (read_edition bytes)
  unfolding read_edition
  placed_edition =
      placed_then File bytes (read_field File 0x01 false 0 bytes) _ (placed_field File 0x01 false 0 bytes (omega arith))
      (λ content e.
      placed_passing File bytes (edition_fault (get_or content 0 0)) 0 (accepted (get_or content 0 0)) (omega arith) (placed_accepted File bytes _))

  placed_atoms : 4 ≤ length bytes → Placed File bytes (read_atoms bytes)
  unfolding read_atoms
  placed_atoms h =
      placed_then File bytes (read_field File 0x02 false 4 bytes) _ (placed_field File 0x02 false 4 bytes h)
      (λ content e.
      placed_passing File bytes (atoms_fault (get_or (numbers content) 0 0)) 4 (accepted (get_or (numbers content) 0 0)) h (placed_accepted File bytes _))

  placed_abducibles : (n : ℕ) → 9 ≤ length bytes → Placed File bytes (read_abducibles n bytes)
  unfolding read_abducibles
  placed_abducibles n h =
      placed_then File bytes (read_field File 0x03 false 9 bytes) _ (placed_field File 0x03 false 9 bytes h)
      (λ content e. placed_passing File bytes (abducibles_fault n 0 (numbers content)) 9 (accepted (numbers content)) h (placed_accepted File bytes _))

  module _ (tag n : ℕ) (abducibles : List ℕ) where
    placed_run : (room place : ℕ) → place ≤ length bytes → Placed File bytes (read_run tag n abducibles room place bytes)
    unfolding read_run
    placed_run zero place h =
        placed_cond File bytes (eqb (get_or (drop place bytes) 0 0) tag)
        (placed_then File bytes (read_field File tag true place bytes) _ (placed_field File tag true place bytes h)
        (λ content e. placed_accepted File bytes _))
        (placed_accepted File bytes _)
    placed_run (suc room) place h =
        placed_cond File bytes (eqb (get_or (drop place bytes) 0 0) tag)
        (placed_then File bytes (read_field File tag false place bytes) _ (placed_field File tag false place bytes h)
        (λ content e.
        placed_passing File bytes (body_fault tag n abducibles (numbers content)) place
        (and_then (read_run tag n abducibles room (place + 3 + length content) bytes) (λ run. accepted (one_more (numbers content) run))) h
        (placed_then File bytes (read_run tag n abducibles room (place + 3 + length content) bytes) _
        (placed_run room (place + 3 + length content) (field_tells File tag false place bytes content e).within)
        (λ run f. placed_accepted File bytes _))))
        (placed_accepted File bytes _)

  placed_rules : (n : ℕ) (abducibles : List ℕ) → first_rule abducibles ≤ length bytes → Placed File bytes (read_rules n abducibles bytes)
  unfolding read_rules
  placed_rules n abducibles h =
      placed_then File bytes (read_run 0x04 n abducibles 1024 (first_rule abducibles) bytes) _ (placed_run 0x04 n abducibles 1024 _ h)
      (λ rules e.
      let w = (run_tells 0x04 n abducibles 1024 (first_rule abducibles) bytes rules (λ z. omega arith) h e).within in
      placed_then File bytes (read_run 0x05 n abducibles 256 rules.next bytes) _ (placed_run 0x05 n abducibles 256 _ w)
      (λ integrity f.
      let v = (run_tells 0x05 n abducibles 256 rules.next bytes integrity (λ z. omega arith) w f).within in
      placed_then File bytes (read_end File integrity.next bytes) _ (placed_end File integrity.next bytes v)
      (λ end g. placed_accepted File bytes _)))

  pub placed_file : Placed File bytes (read_file bytes)
  unfolding read_file
  placed_file =
      placed_then File bytes (read_edition bytes) _ placed_edition
      (λ edition e.
      placed_then File bytes (read_atoms bytes) _ (placed_atoms (edition_read bytes edition e).within)
      (λ n f.
      placed_then File bytes (read_abducibles n bytes) _ (placed_abducibles n (atoms_read bytes n f).0.within)
      (λ abducibles g. let w = (abducibles_read n bytes abducibles g).0.within in placed_rules n abducibles (omega arith))))

  pub placed_sheet : (n : ℕ) → Placed Sheet bytes (read_sheet n bytes)
  unfolding read_sheet
  placed_sheet n =
      placed_then Sheet bytes (read_field Sheet 0x06 false 0 bytes) _ (placed_field Sheet 0x06 false 0 bytes (omega arith))
      (λ content e.
      placed_passing Sheet bytes (literals_fault false n (numbers content)) 0
      (and_then (read_end Sheet (3 + length content) bytes) (λ end. accepted (numbers content))) (omega arith)
      (placed_then Sheet bytes (read_end Sheet (3 + length content) bytes) _
      (placed_end Sheet (3 + length content) bytes (let w = (field_tells Sheet 0x06 false 0 bytes content e).within in omega arith))
      (λ end f. placed_accepted Sheet bytes _)))

-- ---- both papers

-- "1 to 10 name the paper (file or sheet) and the place": which is in that paper, or its end.
pub refused_within : (file sheet : List ℕ) (r : Refusal) → read_papers file sheet ≡ refused r → r.place ≤ length (paper_of r.paper file sheet)
unfolding read_papers
refused_within file sheet r e = go (read_file file) refl e
  where
    both : Program → Query → Outcome Papers
    both p q = accepted (record { program = p; query = q })

    go : (o : Outcome Program) → read_file file ≡ o
        → and_then o (λ p. and_then (read_sheet p.atoms sheet) (both p)) ≡ refused r
        → r.place ≤ length (paper_of r.paper file sheet)
    go (accepted p) is f =
        let n = p.atoms in
        let placed = placed_then Sheet sheet (read_sheet n sheet) (both p) (placed_sheet sheet n) (λ query g. placed_accepted Sheet sheet _) in
        let q = placed.at r f in
        rw q.0 q.1
    go (refused s) is f =
        let z : s ≡ r = cc in
        let q = (placed_file file).at r (is ∙ ap refused z) in
        rw q.0 q.1
