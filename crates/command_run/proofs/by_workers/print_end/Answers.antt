-- Where the output failed, a beginning of the report was taken.
use Rattle.std.proofs.Common.{ap}
use Rattle.std.proofs.lemmas.Result.{err_from_is_err_and}
use Rattle.report_lines.specs.Line.{text_of}
use Rattle.command_run.proofs.by_workers.print_end.Goals as goal

pub returns-in_err-write_report : goal.returns-in_err-write_report
returns-in_err-write_report g c =
    let p = err_from_is_err_and c.from_residual-in_err-write_report.result c.from_residual-in_err-write_report.ensures.1 in
    rw (p.1, p.2) (
      c.finished-finished.result,
      (
        _,
        record {
          is = ap text_of c.in_ok-report.ensures.report;
          good = c.in_ok-report.ensures.good;
          value = c.finished-finished.ensures.value;
        },
        record { bytes = c.in_err-write_report.ensures.err; failed = c.in_err-write_report.ensures.failed },
      ),
    )
