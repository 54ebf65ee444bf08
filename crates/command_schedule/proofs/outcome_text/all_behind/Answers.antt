-- All processors are gone through.
use Rattle.std.proofs.Common.{◌∙◌}
use Rattle.command_schedule.specs.Answers.{replies_behind}
use Rattle.command_schedule.proofs.Listed.{all_listed}
use Rattle.command_schedule.proofs.outcome_text.all_behind.Goals as goal

pub returns : goal.returns
returns g c =
    c.loop-replies.invariant
    ∙ all_listed replies_behind (λ replies. replies.items) c.args.shown.now c.loop-replies.replies-index c.loop-replies-test.false
