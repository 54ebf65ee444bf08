-- Where the output failed, a beginning of the table was taken.
use Rattle.std.proofs.Common.{rules}
use Rattle.std.proofs.lemmas.Result.{err_from_is_err_and}
use Rattle.command_jobs.proofs.version.commands_text.Goals as goal

pub returns-in_err-put_all : goal.returns-in_err-put_all
returns-in_err-put_all g c =
    let p = err_from_is_err_and c.from_residual.result c.from_residual.ensures.1 in
    rw (p.1, p.2) (
      tt,
      (
        c.as_bytes.result.now,
        search rules,
        record { bytes = c.in_err-put_all.ensures.err; failed = c.in_err-put_all.ensures.failed },
      ),
    )
