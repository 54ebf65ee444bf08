use Rattle.std.proofs.Common.{arith}
use Rattle.machine_core.proofs.Standing.{few_tiles}
use Rattle.machine_core.proofs.Agents.{tile_within}
use Rattle.machine_core.proofs.Skips.{credit_rests}
use Rattle.machine_core.proofs.machine.Machine.credit_sleeps.Goals as goal

pub rest_credit-requires : goal.rest_credit-requires
rest_credit-requires g c =
    let few = few_tiles c.self.inside c.self.invariant in
    let long = c.self.inside.tiles.ok.0 in
    let low = tile_within c.self.inside c.self.invariant c.args.self.now c.self.view_is c.args.tile c.requires.tile in
    omega (arith, few, long, low)

pub invariant_of-self : goal.invariant_of-self
invariant_of-self g c =
    credit_rests c.self.inside c.self.invariant c.args.self.now c.self.view_is c.args.tile c.args.output c.requires.idle c.rest_credit.new.self c.rest_credit.ensures.design
    c.rest_credit.ensures.flags

pub returns : goal.returns
returns g c = c.self.view_is
