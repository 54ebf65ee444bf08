use Rattle.std.proofs.Common.{subst, sym}
use Rattle.std.proofs.lemmas.Result.{err_from_is_err_and}
use Rattle.program_fault.specs.Done.{output}
use Rattle.command_verdicts.specs.Reporting.{PutsTraceReport}
use Rattle.command_verdicts.proofs.Reports.{printed, cut, none}
use Rattle.command_verdicts.proofs.report.put_report.Goals as goal

pub returns-in_err-write_report-in-Ok : goal.returns-in_err-write_report-in-Ok
returns-in_err-write_report-in-Ok g c = λ bound.
    let p = err_from_is_err_and c.from_residual.result c.from_residual.ensures.1 in
    rw (p.1, p.2) (cut bound c.args.trace.now c.args.order.now _ _ _ c.requires.explains c.in-Ok.ensures.report c.in-Ok.ensures.good
    c.in_err-write_report-in-Ok.ensures.err c.in_err-write_report-in-Ok.ensures.failed)

pub returns-in_ok-write_report-in-Ok : goal.returns-in_ok-write_report-in-Ok
returns-in_ok-write_report-in-Ok g c = λ bound.
    printed bound c.args.trace.now c.args.order.now _ _ _ c.requires.explains c.in-Ok.ensures.report c.in-Ok.ensures.good c.in_ok-write_report-in-Ok.ensures.ok
    c.in_ok-write_report-in-Ok.ensures.quiet

pub returns-in-Err : goal.returns-in-Err
returns-in-Err g c = λ bound.
    subst
    (PutsTraceReport c.args.trace.now bound (output (g.W.Out.taken c.args.out.now) (g.W.Out.failures c.args.out.now))
    (output (g.W.Out.taken c.args.out.now) (g.W.Out.failures c.args.out.now)))
    (sym c.unreported.ensures) (none bound c.args.trace.now c.args.order.now c.in-Err.why _ c.requires.explains c.in-Err.ensures.unfit)
