use Rattle.std.proofs.Common.{arith}
use Rattle.fabric_rule.proofs.Sides.{hop_behind, own_behind}
use Rattle.fabric_rule.proofs.border.tile_behind.Goals as goal

pub returns-then-output-dims : goal.returns-then-output-dims
returns-then-output-dims c = let d = c.dims.ensures.value in
    own_behind c.args.torus.now c.args.tile c.args.output (omega (arith, d)) c.requires.output

pub returns : goal.returns
returns c = let d = c.dims.ensures.value in
    hop_behind c.args.torus.now c.args.tile c.tiles-tiles.ensures.accepted c.args.output c.neighbour.result c.direction.result c.requires.tile (omega (arith, d))
    c.direction.ensures c.neighbour.ensures
