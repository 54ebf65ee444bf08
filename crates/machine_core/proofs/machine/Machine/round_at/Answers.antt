use Rattle.std.proofs.Common.{◌+◌, ◌*◌, sym, ◌∙◌, ap}
use Rattle.torus.specs.Shape.{Shape, dims_of}
use Rattle.channel_number.specs.Ports.{port_count}
use Rattle.machine_parts.specs.Core.{attempts_of}
use Rattle.machine_parts.specs.Machine.{Core}
use Rattle.torus.specs.Choices.{processor_choices, router_choices}
use Rattle.machine_core.proofs.Rounds.{tile_parts, tile_stays, same_shape}
use Rattle.machine_core.proofs.machine.Machine.round_at.Goals as goal

pub returns : goal.returns
returns g c = tile_parts c.args.ports c.args.tile c.args.self.now c.turn_processor.new.self c.turn_router.new.self c.turn_bank.new.self
    c.turn_processor.ensures c.turn_router.ensures c.turn_bank.ensures

pub turn_router-requires-clause-tile : goal.turn_router-requires-clause-tile
turn_router-requires-clause-tile g c =
    tile_stays c.args.tile c.args.self.now c.turn_processor.new.self (attempts_of (3 * c.args.tile) processor_choices) c.turn_processor.ensures c.requires.tile

pub turn_router-requires-clause-ports : goal.turn_router-requires-clause-ports
turn_router-requires-clause-ports g c =
    c.requires.ports
    ∙ ap (λ (s : Shape). port_count (dims_of s))
    (sym (ap (λ (x : Core). x.shape) c.turn_processor.ensures ∙ same_shape c.args.self.now (attempts_of (3 * c.args.tile) processor_choices)))

pub turn_bank-requires : goal.turn_bank-requires
turn_bank-requires g c =
    let low = tile_stays c.args.tile c.args.self.now c.turn_processor.new.self (attempts_of (3 * c.args.tile) processor_choices) c.turn_processor.ensures
    c.requires.tile in
    tile_stays c.args.tile c.turn_processor.new.self c.turn_router.new.self (attempts_of (3 * c.args.tile + 1) (router_choices c.args.ports))
    c.turn_router.ensures low
