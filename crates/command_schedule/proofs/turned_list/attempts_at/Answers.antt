-- The list of a turn is the round at that turn.
use Rattle.std.proofs.Common.{◌%◌, ◌∙◌, length, refl}
use Rattle.command_schedule.proofs.Turned.{turn_read}
use Rattle.command_schedule.proofs.turned_list.attempts_at.Goals as goal

pub returns : goal.returns
returns g c = λ s are.
    c.as_slice.ensures.value
    ∙ turn_read s c.args.turned.now c.args.before (c.args.before % length c.args.turned.now) c.index-turned-turn.result are refl
    c.index-turned-turn.is
