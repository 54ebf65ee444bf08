-- A send begins an operation where no request is in course.
use Rattle.std.proofs.Common.{List, ℕ, ap, sym, ◌∙◌}
use Rattle.torus.specs.declared.step.Choice.{Choice}
use Rattle.tile.specs.declared.agent.Agent.TheVariants.{Processor}
use Rattle.core_laws.specs.Mirrors.{tile_at}
use Rattle.machine_core.specs.Guarded.{is_begin}
use Rattle.command_schedule.proofs.HeldBack.{send_begins}
use Rattle.command_schedule.proofs.fair.begins.Goals as goal

pub returns-in-Send : goal.returns-in-Send
returns-in-Send g c =
    let xs : List ℕ = (tile_at c.args.machine.now.state c.args.tile).processor.to_put in
    send_begins xs c.is_between_requests.result c.is_between_requests.ensures
    ∙ ap (λ (choice : Choice). is_begin Processor choice xs) (sym c.in-Send.is)
