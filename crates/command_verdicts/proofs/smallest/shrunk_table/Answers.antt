use Rattle.std.specs.Str.Lines.{lines}
use Rattle.std.proofs.Common.{subst, sym}
use Rattle.std.proofs.lemmas.Result.{IfOk-weaker}
use Rattle.command_verdicts.specs.Tables.{IsTraceOfTable}
use Rattle.command_verdicts.proofs.smallest.shrunk_table.Goals as goal

pub returns : goal.returns
returns g c = IfOk-weaker c.shrunk_text.result _ _
    (λ left h. record {
      text = c.deref-2.result.now;
      events = c.in_ok-trace.trace.lines.items;
      trace = subst (λ text. IsTraceOfTable (lines c.args.table.now) text c.in_ok-trace.trace.lines.items) (sym c.deref-2.ensures.value) c.in_ok-trace.ensures.trace;
      tells = h;
    })
    c.shrunk_text.ensures
