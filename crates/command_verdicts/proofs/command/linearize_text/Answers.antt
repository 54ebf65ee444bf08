-- Where the output failed, a beginning of the order's text was taken; where there is no order, nothing was written.
use Rattle.std.proofs.Common.{ap, ◌∙◌}
use Rattle.std.proofs.lemmas.Result.{err_from_is_err_and}
use Rattle.trace_answer.specs.Texts.{order_text}
use Rattle.command_verdicts.specs.declared.command.Judged.TheVariants.{Linearizable}
use Rattle.std.specs.Str.Lines.{lines}
use Rattle.program_fault.specs.Done.{output}
use Rattle.command_verdicts.proofs.Verdicts.{refused, refused_by, too_many, too_open}
use Rattle.command_verdicts.proofs.command.linearize_text.Goals as goal

pub returns-in_err-write_order-in-Ok-Linearizable : goal.returns-in_err-write_order-in-Ok-Linearizable
returns-in_err-write_order-in-Ok-Linearizable g c =
    let again = c.from_residual-in_err-write_order-in-Ok-Linearizable in
    let p = err_from_is_err_and again.result again.ensures.1 in
    let order = c.in-Ok-Linearizable.order.items in
    rw (p.1, p.2) (
      Linearizable,
      (
        _,
        record {
          trace = c.in_ok-trace.trace;
          read = c.in_ok-trace.ensures;
          judged = record {
            order = order;
            explains = rw c.in-Ok-Linearizable.field-0-is at c.in-Ok-Linearizable.ensures.found;
            is = ap (λ issued. order_text issued c.deref.result.now) c.issued.ensures
                ∙ ap (order_text c.in_ok-trace.trace.issued) c.deref.ensures.value;
          };
        },
        record {
          bytes = c.in_err-write_order-in-Ok-Linearizable.ensures.err;
          failed = c.in_err-write_order-in-Ok-Linearizable.ensures.failed;
        },
      ),
    )

pub returns-in-Ok-No : goal.returns-in-Ok-No
returns-in-Ok-No g c =
    refused (lines c.args.trace.now) c.args.configurations c.in_ok-trace.trace (output (g.W.Out.taken c.args.out.now) (g.W.Out.failures c.args.out.now))
    c.in-Ok-No.line c.in_ok-trace.ensures (rw c.in-Ok-No.field-0-is at c.in-Ok-No.ensures.found)

pub returns-in-Ok-NoBy : goal.returns-in-Ok-NoBy
returns-in-Ok-NoBy g c =
    refused_by (lines c.args.trace.now) c.args.configurations c.in_ok-trace.trace (output (g.W.Out.taken c.args.out.now) (g.W.Out.failures c.args.out.now))
    c.in-Ok-NoBy.line c.in-Ok-NoBy.why c.in_ok-trace.ensures (rw c.in-Ok-NoBy.field-0-is at c.in-Ok-NoBy.ensures.found)

pub returns-in-Err-Configurations : goal.returns-in-Err-Configurations
returns-in-Err-Configurations g c =
    too_many (lines c.args.trace.now) c.args.configurations c.in_ok-trace.trace (output (g.W.Out.taken c.args.out.now) (g.W.Out.failures c.args.out.now))
    c.in-Err-Configurations.line c.in_ok-trace.ensures (rw c.in-Err-Configurations.field-0-is at c.in-Err-Configurations.ensures.unfound)

pub returns : goal.returns
returns g c =
    too_open (lines c.args.trace.now) c.args.configurations c.in_ok-trace.trace (output (g.W.Out.taken c.args.out.now) (g.W.Out.failures c.args.out.now))
    c.in-Err-Operations.line c.in_ok-trace.ensures (rw c.in-Err-Operations.field-0-is at c.in-Err-Operations.ensures.unfound)
