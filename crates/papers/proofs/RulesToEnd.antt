-- The rules, the integrity rules and the end of a file, as `read_rules` meets them.
-- Assumes nothing.
use mathlib.Core.Path.{◌≡◌, ap, ◌∙◌}
use mathlib.Core.List.{List, map}
use Prim.Native.Nat.{ℕ, ◌+◌, ◌*◌, ◌≤◌}
use native.Mathlib.Omega.{arith}
use lib.ListN.{length, length-map}
use Rattle.papers.specs.declared.Paper.TheVariants.{File}
use Rattle.papers.specs.declared.Contents.{Contents}
use Rattle.papers.specs.declared.Run as declared
use Rattle.papers.specs.Outcome.{Refusal, accepted, refused}
use Rattle.papers.specs.Encoding.{rule_numbers}
use Rattle.papers.specs.Reading.{first_rule, read_run, read_end, rule_of, program_of, read_rules}
use Rattle.papers.specs.Answers.{fields_length, run_of, contents_of}
use Rattle.papers.proofs.ContentLaws.{numbers_back}
use Rattle.papers.proofs.RunLaws.{RunTells, run_tells}
use Rattle.papers.proofs.ReadersGot.{Read}

-- An accepted file's counts and places, by the runs that were read.
abbrev pub contents_from : ℕ → ℕ → declared.Run → declared.Run → Contents
contents_from n count rules integrity = record {
  atoms = n;
  abducibles = count;
  rules = record { count = rules.count; place = 12 + 2 * count };
  integrity = record { count = integrity.count; place = rules.next };
  end = integrity.next;
}

module _ (n : ℕ) (abducibles bytes : List ℕ) (fits : first_rule abducibles ≤ length bytes) where
  pub rules_refused : {r : Refusal} → read_run 0x04 n abducibles 1024 (first_rule abducibles) bytes ≡ refused r → read_rules n abducibles bytes ≡ refused r
  unfolding read_rules
  rules_refused e = rw e

  module _ {rules : declared.Run} (first : Read (run_of 0) (read_run 0x04 n abducibles 1024 (first_rule abducibles) bytes) rules) where
    rules_tell : RunTells 0x04 n abducibles 1024 (first_rule abducibles) bytes first.value
    rules_tell = run_tells 0x04 n abducibles 1024 (first_rule abducibles) bytes first.value (λ e. omega arith) fits first.is

    rules_end : first.value.next ≡ rules.next
    rules_end = ap (λ (r : declared.Run). r.next) first.tells_it

    pub rules_within : rules.next ≤ length bytes
    rules_within = let t = rules_tell in let e = rules_end in omega (arith, t.within)

    pub integrity_refused : {r : Refusal} → read_run 0x05 n abducibles 256 rules.next bytes ≡ refused r → read_rules n abducibles bytes ≡ refused r
    unfolding read_rules
    integrity_refused e = rw (first.is, rules_end, e)

    module _ {integrity : declared.Run} (second : Read (run_of 0) (read_run 0x05 n abducibles 256 rules.next bytes) integrity) where
      integrity_tell : RunTells 0x05 n abducibles 256 rules.next bytes second.value
      integrity_tell = run_tells 0x05 n abducibles 256 rules.next bytes second.value (λ e. omega arith) rules_within second.is

      integrity_end : second.value.next ≡ integrity.next
      integrity_end = ap (λ (r : declared.Run). r.next) second.tells_it

      pub integrity_within : integrity.next ≤ length bytes
      integrity_within = let t = integrity_tell in let e = integrity_end in omega (arith, t.within)

      pub end_refused : {r : Refusal} → read_end File integrity.next bytes ≡ refused r → read_rules n abducibles bytes ≡ refused r
      unfolding read_rules
      end_refused e = rw (first.is, rules_end, second.is, integrity_end, e)

      -- The places, by the program that was read.
      abbrev rule_fields : List (List ℕ)
      rule_fields = map rule_numbers (map rule_of first.value.contents)

      next_is : first_rule abducibles + fields_length rule_fields ≡ rules.next
      next_is =
          let t = rules_tell in
          let e = ap fields_length (numbers_back n abducibles t.bodies) in
          omega (arith, t.next_is, rules_end)

      told : contents_of (program_of n abducibles first.value second.value) ≡ contents_from n (length abducibles) rules integrity
      told =
          let a : 0 + length first.value.contents ≡ rules.count = ap (λ (r : declared.Run). r.count) first.tells_it in
          let k : length first.value.contents ≡ rules.count = omega arith in
          let b : length (map rule_of first.value.contents) ≡ rules.count = length-map first.value.contents rule_of ∙ k in
          let d : 0 + length second.value.contents ≡ integrity.count = ap (λ (r : declared.Run). r.count) second.tells_it in
          let c : length second.value.contents ≡ integrity.count = omega arith in
          let q : first_rule abducibles + fields_length rule_fields ≡ rules.next = next_is in
          let t = integrity_tell in
          let z : first_rule abducibles + fields_length rule_fields + fields_length second.value.contents ≡ integrity.next =
          omega (arith, t.next_is, integrity_end) in
          λ i. record {
            atoms = n;
            abducibles = length abducibles;
            rules = record { count = b i; place = first_rule abducibles };
            integrity = record { count = c i; place = q i };
            end = z i;
          }

      pub all_accepted : {end : ℕ} → read_end File integrity.next bytes ≡ accepted end
          → Read contents_of (read_rules n abducibles bytes) (contents_from n (length abducibles) rules integrity)
      unfolding read_rules
      all_accepted e = record {
        value = program_of n abducibles first.value second.value;
        is = rw (first.is, rules_end, second.is, integrity_end, e);
        tells_it = told;
      }
