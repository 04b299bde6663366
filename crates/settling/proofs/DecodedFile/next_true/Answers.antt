-- `settling::DecodedFile::next_true` meets its contract.
use mathlib.Core.Path.{subst}
use Prim.Native.Nat.{ℕ}
use Rattle.papers.specs.Reading.{program_in}
use Rattle.lanes.specs.Lanes.{Written}
use Rattle.lanes.specs.Words.{joined_word}
use Rattle.closing.proofs.RulesVisited.{rules_stand, rules_parted}
use Rattle.settling.proofs.RoundLaws.{next_true}
use Rattle.settling.proofs.DecodedFile.next_true.Goals as goal

pub close_true-requires : goal.close_true-requires
close_true-requires c =
    let d = c.args.self.now in
    let p = program_in d.file.now in
    let rules = c.requires.decoded.rules_in_lem in (
      rules_stand p rules.valid d.rules.now d.rule_visits.now rules.stand,
      rules_parted p rules.valid d.rules.now d.rule_visits.now rules.stand,
    )

pub returns-then-moved-ne0 : goal.returns-then-moved-ne0
returns-then-moved-ne0 c =
    let a = c.args in
    let d = a.self.now in
    let p = program_in d.file.now in
    let rules = c.requires.decoded.rules_in_lem in
    let seed = c.join_words.new.after in
    let joined = subst (λ (n : ℕ). Written n (joined_word a.abducible.now.t a.held.now.t) a.next.now seed) c.judged.ensures
    c.join_words.ensures in
    record {
      anew = λ n.
          next_true p rules.valid d.rules.now d.rule_visits.now a.abducible.now.t a.held.now.t a.held.now.f a.next.now seed
          c.close_true.new.truth rules.stand joined c.close_true.ensures;
      left = λ e. absurd (c.if-moved-ne0.true e);
    }
