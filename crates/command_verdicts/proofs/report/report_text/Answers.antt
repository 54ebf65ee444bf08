use Rattle.std.proofs.Common.{subst, sym}
use Rattle.std.specs.Str.Lines.{lines}
use Rattle.program_fault.specs.Done.{output}
use Rattle.trace_laws.specs.Orders.{IsOrder}
use Rattle.trace_text.specs.Traced.{opening_of}
use Rattle.command_verdicts.proofs.Reports.{of_text, refused, refused_by, too_many, too_open}
use Rattle.command_verdicts.proofs.report.report_text.Goals as goal

pub put_report-requires-clause-whole : goal.put_report-requires-clause-whole
put_report-requires-clause-whole g c = c.texts_are_whole.ensures (lines c.args.trace.now) c.in_ok-trace.trace c.in_ok-trace.ensures

pub put_report-requires-clause-explains : goal.put_report-requires-clause-explains
put_report-requires-clause-explains g c =
    subst (IsOrder (opening_of c.in_ok-trace.trace) c.in_ok-trace.trace.events) (sym c.deref.ensures.value)
    (rw c.in-Ok-Linearizable.field-0-is at c.in-Ok-Linearizable.ensures.found)

pub returns-in-Ok-Linearizable : goal.returns-in-Ok-Linearizable
returns-in-Ok-Linearizable g c =
    of_text (lines c.args.trace.now) c.args.configurations c.in_ok-trace.trace _ _ c.put_report.result c.in_ok-trace.ensures
    (c.put_report.ensures c.args.configurations)

pub returns-in-Ok-No : goal.returns-in-Ok-No
returns-in-Ok-No g c =
    refused (lines c.args.trace.now) c.args.configurations c.in_ok-trace.trace (output (g.W.Out.taken c.args.out.now) (g.W.Out.failures c.args.out.now))
    c.in-Ok-No.line c.in_ok-trace.ensures (rw c.in-Ok-No.field-0-is at c.in-Ok-No.ensures.found)

pub returns-in-Ok-NoBy : goal.returns-in-Ok-NoBy
returns-in-Ok-NoBy g c =
    refused_by (lines c.args.trace.now) c.args.configurations c.in_ok-trace.trace (output (g.W.Out.taken c.args.out.now) (g.W.Out.failures c.args.out.now))
    c.in-Ok-NoBy.line c.in-Ok-NoBy.why c.in_ok-trace.ensures (rw c.in-Ok-NoBy.field-0-is at c.in-Ok-NoBy.ensures.found)

pub returns-in-Err-Configurations : goal.returns-in-Err-Configurations
returns-in-Err-Configurations g c =
    rw c.in-Err-Configurations.field-0-is
    (too_many (lines c.args.trace.now) c.args.configurations c.in_ok-trace.trace (output (g.W.Out.taken c.args.out.now) (g.W.Out.failures c.args.out.now))
    c.in-Err-Configurations.line c.in_ok-trace.ensures (rw c.in-Err-Configurations.field-0-is at c.in-Err-Configurations.ensures.unfound))

pub returns : goal.returns
returns g c =
    rw c.in-Err-Operations.field-0-is
    (too_open (lines c.args.trace.now) c.args.configurations c.in_ok-trace.trace (output (g.W.Out.taken c.args.out.now) (g.W.Out.failures c.args.out.now))
    c.in-Err-Operations.line c.in_ok-trace.ensures (rw c.in-Err-Operations.field-0-is at c.in-Err-Operations.ensures.unfound))
