-- What is answered of the trace text is answered of the table, with its lines.
use Rattle.std.specs.Str.Lines.{lines}
use Rattle.std.proofs.Common.{subst, sym}
use Rattle.program_fault.specs.Done.{output}
use Rattle.command_verdicts.specs.Judging.{IsJudgement}
use Rattle.command_verdicts.specs.Tables.{IsTraceOfTable}
use Rattle.command_verdicts.proofs.Tables.{in_table}
use Rattle.command_verdicts.proofs.table.linearize_table.Goals as goal

pub returns : goal.returns
returns g c =
    let trace = subst (λ text. IsTraceOfTable (lines c.args.table.now) text c.in_ok-trace.trace.lines.items)
    (sym c.deref.ensures.value) c.in_ok-trace.ensures.trace in
    rw c.answer_in_table.ensures
    (in_table (λ events. IsJudgement events c.args.configurations) (lines c.args.table.now) c.deref.result.now
    c.in_ok-trace.trace.lines.items trace (output (g.W.Out.taken c.args.out.now) (g.W.Out.failures c.args.out.now))
    (output (g.W.Out.taken c.linearize_text-answer.new.out) (g.W.Out.failures c.linearize_text-answer.new.out)) c.linearize_text-answer.result c.linearize_text-answer.ensures)
