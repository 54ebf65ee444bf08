use Rattle.std.proofs.Common.{◌+◌, ◌*◌, arith}
use Rattle.tile.specs.declared.agent.Agent.TheVariants.{Bank}
use Rattle.tile.proofs.AgentNumbers.{kind_of_number}
use Rattle.machine_core.proofs.Standing.{few_tiles}
use Rattle.machine_core.proofs.Agents.{tile_within}
use Rattle.machine_core.proofs.Sleeping.{choice_falls_asleep}
use Rattle.machine_core.proofs.machine.Machine.choice_of_bank_sleeps.Goals as goal

pub rest_choice-requires : goal.rest_choice-requires
rest_choice-requires g c =
    let few = few_tiles c.self.inside c.self.invariant in
    let long = c.self.inside.tiles.ok.0 in
    let low = tile_within c.self.inside c.self.invariant c.args.self.now c.self.view_is c.args.tile c.requires.tile in
    omega (arith, few, long, low)

pub invariant_of-self : goal.invariant_of-self
invariant_of-self g c =
    choice_falls_asleep c.self.inside c.self.invariant c.args.self.now c.self.view_is (3 * c.args.tile + 2) c.args.choice Bank (kind_of_number c.args.tile Bank)
    (λ e. cc) (λ ports. c.requires.choice) c.requires.idle c.rest_choice.new.self c.rest_choice.ensures.design c.rest_choice.ensures.flags

pub returns : goal.returns
returns g c = c.self.view_is
