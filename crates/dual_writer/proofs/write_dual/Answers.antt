-- `dual_writer::write_dual` meets its contract.
use Rattle.std.proofs.lemmas.Result.{err_from_is_err_and}
use Rattle.papers.specs.Reading.{read_file}
use Rattle.papers.specs.Answers.{contents_of}
use Rattle.papers.proofs.ReadersGot.{got_accepted, got_refused, accepted_told}
use Rattle.dual_writer.specs.WrittenDual.{written_told, dual_told}
use Rattle.dual_writer.proofs.write_dual.Goals as goal

pub returns-in_err-contents : goal.returns-in_err-contents
unfolding written_told dual_told
returns-in_err-contents c =
    let refused = got_refused _ contents_of (read_file c.args.file.now) c.read_file.ensures c.in_err-contents.was in
    let p = err_from_is_err_and c.from_residual.result c.from_residual.ensures.1 in
    (rw (refused, p.1, p.2), rw refused)

pub write_read-requires : goal.write_read-requires
write_read-requires c =
    accepted_told _ _ (got_accepted _ contents_of (read_file c.args.file.now) c.read_file.ensures c.in_ok-contents.was)
