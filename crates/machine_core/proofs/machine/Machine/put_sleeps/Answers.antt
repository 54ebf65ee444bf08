use Rattle.std.proofs.Common.{arith}
use Rattle.machine_core.proofs.Standing.{few_tiles}
use Rattle.machine_core.proofs.Agents.{tile_within}
use Rattle.machine_core.proofs.Skips.{put_rests}
use Rattle.machine_core.proofs.machine.Machine.put_sleeps.Goals as goal

pub rest_put-requires : goal.rest_put-requires
rest_put-requires g c =
    let few = few_tiles c.self.inside c.self.invariant in
    let long = c.self.inside.tiles.ok.0 in
    let low = tile_within c.self.inside c.self.invariant c.args.self.now c.self.view_is c.args.tile c.requires.tile in
    omega (arith, few, long, low)

pub invariant_of-self : goal.invariant_of-self
invariant_of-self g c =
    put_rests c.self.inside c.self.invariant c.args.self.now c.self.view_is c.args.tile c.args.input c.requires.idle c.rest_put.new.self c.rest_put.ensures.design
    c.rest_put.ensures.flags

pub returns : goal.returns
returns g c = c.self.view_is
