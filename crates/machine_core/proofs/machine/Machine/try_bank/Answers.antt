use Rattle.std.proofs.Common.{◌+◌, ◌*◌, sym, ◌∙◌, arith}
use Rattle.machine_core.proofs.Standing.{few_tiles}
use Rattle.machine_core.proofs.Agents.{tile_within}
use Rattle.machine_core.proofs.Rounds.{tile_stays_once}
use Rattle.machine_core.proofs.Skips.{idle_of}
use Rattle.machine_core.proofs.Sleeping.{choice_slept}
use Rattle.machine_core.proofs.machine.Machine.try_bank.Goals as goal

pub is_choice_awake-requires : goal.is_choice_awake-requires
is_choice_awake-requires g c =
    let few = few_tiles c.self.inside c.self.invariant in
    let long = c.self.inside.tiles.ok.0 in
    let low = tile_within c.self.inside c.self.invariant c.args.self.now c.self.view_is c.args.tile c.requires.tile in
    omega (arith, few, long, low)

-- one that is asleep is left out
pub returns-then-not-is_choice_awake : goal.returns-then-not-is_choice_awake
returns-then-not-is_choice_awake g c =
    choice_slept c.self.inside c.self.invariant c.args.self.now c.self.view_is (3 * c.args.tile + 2) c.args.choice
    (sym c.is_choice_awake.ensures ∙ c.if-not-is_choice_awake.true)

pub returns-in-Moved : goal.returns-in-Moved
returns-in-Moved g c = c.step_bank.ensures.change

pub choice_of_bank_sleeps-requires-clause-tile : goal.choice_of_bank_sleeps-requires-clause-tile
choice_of_bank_sleeps-requires-clause-tile g c =
    tile_stays_once c.args.tile c.args.self.now c.step_bank.new.self
    (record { agent = 3 * c.args.tile + 2; choice = c.args.choice }) c.step_bank.ensures.change
    c.requires.tile

pub choice_of_bank_sleeps-requires-clause-idle : goal.choice_of_bank_sleeps-requires-clause-idle
choice_of_bank_sleeps-requires-clause-idle g c =
    idle_of c.args.self.now c.step_bank.new.self c.step_bank.result
    (record { agent = 3 * c.args.tile + 2; choice = c.args.choice }) c.step_bank.ensures c.in-Idle.is

pub returns-in-Idle : goal.returns-in-Idle
returns-in-Idle g c = c.choice_of_bank_sleeps.ensures ∙ c.step_bank.ensures.change
