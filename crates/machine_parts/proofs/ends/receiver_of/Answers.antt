use Rattle.std.proofs.Common.{◌∙◌}
use Rattle.machine_parts.proofs.PlacesOfLines.{received_by_hop, inside_of}
use Rattle.machine_parts.proofs.ends.receiver_of.Goals as goal

pub returns-in-Hop-clause-value : goal.returns-in-Hop-clause-value
returns-in-Hop-clause-value c =
    c.agent_number-in-Hop.ensures.value
    ∙ received_by_hop c.args.torus.now c.tiles-tiles.ensures.accepted c.args.index c.in-Hop.dim c.neighbour.result c.in-Hop.dir c.in-Hop.bit
    c.channel_at-channel.result
    c.channel_at-channel.ensures.channel.tile (inside_of c.args.torus.now _ _ _ _ c.in-Hop.is c.channel_at-channel.ensures.channel.kind)
    c.channel_at-channel.ensures.value c.in-Hop.is c.neighbour.ensures
