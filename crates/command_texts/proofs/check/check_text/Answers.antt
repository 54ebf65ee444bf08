-- Where the output failed, a beginning of the verdict was taken.
use Rattle.std.proofs.Common.{refl}
use Rattle.std.proofs.lemmas.Result.{err_from_is_err_and}
use Rattle.command_texts.proofs.check.check_text.Goals as goal

pub returns-in_err-put_all : goal.returns-in_err-put_all
returns-in_err-put_all g c =
    let p = err_from_is_err_and c.from_residual-in_err-put_all.result c.from_residual-in_err-put_all.ensures.1 in
    rw (p.1, p.2) (
      tt,
      (
        _,
        record { good = c.in_ok-check_report.ensures.good; is = refl },
        record { bytes = c.in_err-put_all.ensures.err; failed = c.in_err-put_all.ensures.failed },
      ),
    )
