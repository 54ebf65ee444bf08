use Rattle.std.proofs.Common.{◌∙◌, sym}
use Rattle.command_schedule.proofs.Kept.{one_kept, one_left}
use Rattle.command_schedule.proofs.fair_list.keep_one.Goals as goal

pub returns-then-not-enabled-clause-kept : goal.returns-then-not-enabled-clause-kept
returns-then-not-enabled-clause-kept g c =
    one_left c.args.machine.now c.args.attempt c.args.room.now c.args.count (sym c.enabled.ensures ∙ c.if-not-enabled.true)

pub returns-clause-kept : goal.returns-clause-kept
returns-clause-kept g c =
    one_kept c.args.machine.now c.args.attempt c.args.room.now c.args.count c.requires (sym c.enabled.ensures ∙ c.if-not-enabled.false)
