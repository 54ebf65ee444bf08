-- The parts of a tile, one after the other.
use Rattle.std.proofs.Common.{ℕ, ◌+◌, ◌*◌}
use Rattle.torus.specs.Choices.{bank_choices, processor_choices}
use Rattle.torus.specs.declared.step.Choice.TheVariants.{Put}
use Rattle.core_laws.specs.Core.{attempts_of}
use Rattle.machine_core.specs.Rounds.{attempts_between}
use Rattle.command_schedule.proofs.Turned.{tile_turned}
use Rattle.command_schedule.proofs.turned_list.push_turned.Goals as goal

pub returns : goal.returns
returns g c =
    tile_turned (3 * c.args.tile + 1) c.args.ports (attempts_of (3 * c.args.tile) processor_choices)
    (attempts_between (λ (k : ℕ). Put k) (3 * c.args.tile + 1) c.args.first c.args.ports)
    (attempts_between (λ (k : ℕ). Put k) (3 * c.args.tile + 1) 0 c.args.first)
    (attempts_of (3 * c.args.tile + 2) bank_choices)
    c.args.steps.now.items c.push_choices.new.steps.items c.push_takes.new.steps.items c.push_puts_between.new.steps.items
    c.push_puts_between-2.new.steps.items c.push_credits.new.steps.items c.push_choices-2.new.steps.items
    c.in_ok-push_choices.ensures c.in_ok-push_takes.ensures c.in_ok-push_puts_between.ensures c.in_ok-push_puts_between-2.ensures
    c.in_ok-push_credits.ensures c.in_ok-push_choices-2.ensures
