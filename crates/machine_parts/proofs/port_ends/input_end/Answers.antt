use Rattle.std.proofs.Common.{◌+◌, ◌*◌, ◌%◌, ℕ, ap}
use Rattle.machine_parts.proofs.PlacesOfLines.{end_of_hop, inside_of}
use Rattle.machine_parts.proofs.port_ends.input_end.Goals as goal

pub returns-in-Hop : goal.returns-in-Hop
returns-in-Hop c =
    end_of_hop c.args.torus.now c.tiles-tiles.ensures.accepted c.args.index c.in-Hop.dim c.neighbour.result (c.args.index % (8 * c.dims.result + 4)) c.in-Hop.dir
    c.in-Hop.bit c.channel_at-channel.result
    c.channel_at-channel.ensures.channel.tile (inside_of c.args.torus.now _ _ _ _ c.in-Hop.is c.channel_at-channel.ensures.channel.kind)
    c.channel_at-channel.ensures.value c.in-Hop.is c.neighbour.ensures
    (ap (λ (n : ℕ). c.args.index % (8 * n + 4)) c.dims.ensures.value)
