-- `content::check_literals` meets its contract. The loop's invariant: what is asked of all literals is asked of those from the i-th on.
use mathlib.Core.Path.{◌≡◌}
use Prim.Native.Nat.{◌*◌}
use lib.ListN.{drop}
use Rattle.papers.specs.Field.{numbers}
use Rattle.papers.specs.Content.{literals_fault}
use Rattle.content.proofs.check_literals.Given as goal

abbrev pub invariant-loop-i : goal.invariant-loop-i
invariant-loop-i l = literals_fault l.in_body l.atoms (numbers l.content) ≡ literals_fault l.in_body l.atoms (numbers (drop (2 * l.i) l.content))
