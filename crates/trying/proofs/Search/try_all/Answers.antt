-- `trying::Search::try_all` meets its contract. The loop's invariant: as many steps as scenarios tried.
use mathlib.Core.Path.{◌≡◌, refl}
use Prim.Native.Nat.{◌+◌}
use native.Mathlib.Omega.{arith}
use Rattle.settling.proofs.DecodedLaws.{few_abducibles}
use Rattle.trying.proofs.PassedOver.{span_some}
use Rattle.trying.proofs.Batches.{tried_none, tried_then, tried_short, tried_done}
use Rattle.trying.proofs.Search.try_all.Goals as goal

pub loop-reached-init : goal.loop-reached-init
loop-reached-init c = record { allowed = omega (arith, c.requires.1); so_far = tried_none c.requires.1 c.requires.0.kept }

pub disagreeing_run-run-requires : goal.disagreeing_run-run-requires
disagreeing_run-run-requires c = few_abducibles c.requires.0.prepared.file_in

pub batch_size-count-requires : goal.batch_size-count-requires
batch_size-count-requires c =
    let inv = c.loop-reached.invariant in
    (rw c.span.ensures (span_some c.disagreeing_run-run.result), inv.allowed, inv.so_far.advance.kept.within)

pub returns-then-count-eq0 : goal.returns-then-count-eq0
returns-then-count-eq0 c =
    let inv = c.loop-reached.invariant in
    tried_done inv.so_far c.requires.0.scenarios inv.allowed (c.batch_size-count.ensures.none c.if-count-eq0.true)

pub try_next-reached-requires : goal.try_next-reached-requires
try_next-reached-requires c =
    let batch = rw c.span.ensures at c.batch_size-count.ensures in
    let ready = c.requires.0 in (
      record {
        prepared = ready.prepared;
        scenarios = ready.scenarios;
        kept = c.loop-reached.invariant.so_far.advance.kept;
        room = omega (arith, batch.allowed);
      },
      record { passing = c.disagreeing_run-run.ensures; few = batch.few; there = batch.there },
    )

pub returns-then-reached-aim : goal.returns-then-reached-aim
returns-then-reached-aim c =
    tried_short (tried_then c.loop-reached.invariant.so_far refl c.try_next-reached.ensures) c.batch_size-count.ensures.allowed (omega arith)

pub loop-reached-preserved : goal.loop-reached-preserved
loop-reached-preserved c =
    let tried = c.try_next-reached in
    let most = tried.ensures.advance.most in
    let e : tried.result.tried ≡ c.loop-reached.reached.tried + c.batch_size-count.result = omega arith in
    record {
      allowed = omega (arith, e, c.batch_size-count.ensures.allowed);
      so_far = tried_then c.loop-reached.invariant.so_far e tried.ensures;
    }
