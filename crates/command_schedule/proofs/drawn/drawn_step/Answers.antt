use Rattle.std.proofs.Common.{sym, ap, ◌∙◌, arith}
use Rattle.command_schedule.specs.Drawn.{enabled_now}
use Rattle.command_schedule.proofs.Drawing.{drawn_none, drawn_some}
use Rattle.command_schedule.proofs.drawn.drawn_step.Goals as goal

pub returns-then-count-eq0 : goal.returns-then-count-eq0
returns-then-count-eq0 g c =
    drawn_none (enabled_now c.args.machine.now c.args.attempts.now) c.enabled_count-count.result c.args.word c.enabled_count-count.ensures (omega arith)

pub returns : goal.returns
returns g c =
    c.enabled_at.ensures
    ∙ drawn_some (enabled_now c.args.machine.now c.args.attempts.now) c.enabled_count-count.result c.args.word c.enabled_count-count.ensures (omega arith)
