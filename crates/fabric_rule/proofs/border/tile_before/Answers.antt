use Rattle.std.proofs.Common.{◌∙◌, ap, arith}
use Rattle.channel_number.specs.Ports.{opposite}
use Rattle.fabric_rule.proofs.Sides.{hop_before, own_before}
use Rattle.fabric_rule.proofs.border.tile_before.Goals as goal

pub returns-then-input-dims : goal.returns-then-input-dims
returns-then-input-dims c = let d = c.dims.ensures.value in
    own_before c.args.torus.now c.args.tile c.args.input (omega (arith, d)) c.requires.input

pub returns : goal.returns
returns c = let d = c.dims.ensures.value in
    hop_before c.args.torus.now c.args.tile c.tiles-tiles.ensures.accepted c.args.input c.neighbour.result c.opposite.result c.requires.tile (omega (arith, d))
    (c.opposite.ensures ∙ ap opposite c.direction.ensures) c.neighbour.ensures
