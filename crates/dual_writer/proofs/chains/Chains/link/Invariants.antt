-- `dual_writer::chains::Chains::link` meets its contract. The loop's invariant: the rules from here on are linked.
use Rattle.papers.specs.Program.{all_rules}
use Rattle.papers.specs.Reading.{program_in}
use Rattle.dual_writer.proofs.ChainLaws.{Linked}
use Rattle.dual_writer.proofs.chains.Chains.link.Given as goal

abbrev pub invariant-loop-k : goal.invariant-loop-k
invariant-loop-k l = Linked (all_rules (program_in l.fn.file.bytes.now)) l.k l.self.first l.self.next
