use Rattle.std.proofs.Common.{ℕ, ◌+◌, ◌*◌, ◌∙◌, arith}
use Rattle.torus.specs.declared.step.Choice.TheVariants.{TakeFrom}
use Rattle.machine_core.proofs.Standing.{few_tiles}
use Rattle.machine_core.proofs.Agents.{tile_within}
use Rattle.machine_core.proofs.Rounds.{tile_stays_once}
use Rattle.machine_core.proofs.Skips.{takes_asleep, skipped, skipped_to, idle_of}
use Rattle.machine_core.proofs.machine.Machine.attempt_take.Goals as goal

pub next_take-requires-clause-tile : goal.next_take-requires-clause-tile
next_take-requires-clause-tile g c =
    let few = few_tiles c.self.inside c.self.invariant in
    let long = c.self.inside.tiles.ok.0 in
    let low = tile_within c.self.inside c.self.invariant c.args.self.now c.self.view_is c.args.tile c.requires.tile in
    omega (arith, few, long, low)

-- none is left that counts as awake
pub returns-in_default : goal.returns-in_default
returns-in_default g c =
    record {
      state = skipped (λ (k : ℕ). TakeFrom k) (3 * c.args.tile + 1) c.args.self.now c.args.from c.args.ports
          (takes_asleep c.self.inside c.self.invariant c.args.self.now c.self.view_is c.args.tile c.args.from c.args.ports c.in_default.ensures);
      later = c.requires.from;
      within = omega arith;
    }

pub take_sleeps-requires-clause-tile : goal.take_sleeps-requires-clause-tile
take_sleeps-requires-clause-tile g c =
    tile_stays_once c.args.tile c.args.self.now c.step_router.new.self (record { agent = 3 * c.args.tile + 1; choice = TakeFrom c.in-Some.input })
    c.step_router.ensures.change c.requires.tile

pub take_sleeps-requires-clause-idle : goal.take_sleeps-requires-clause-idle
take_sleeps-requires-clause-idle g c =
    idle_of c.args.self.now c.step_router.new.self c.step_router.result (record { agent = 3 * c.args.tile + 1; choice = TakeFrom c.in-Some.input })
    c.step_router.ensures c.in-Idle.is

pub returns-in-Moved-clause-state : goal.returns-in-Moved-clause-state
returns-in-Moved-clause-state g c =
    skipped_to (λ (k : ℕ). TakeFrom k) (3 * c.args.tile + 1) c.args.self.now c.step_router.new.self c.args.from c.in-Some.input (c.in-Some.ensures.1).low
    (takes_asleep c.self.inside c.self.invariant c.args.self.now c.self.view_is c.args.tile c.args.from c.in-Some.input (c.in-Some.ensures.1).before)
    c.step_router.ensures.change

pub returns-in-Idle-clause-state : goal.returns-in-Idle-clause-state
returns-in-Idle-clause-state g c =
    c.take_sleeps.ensures
    ∙ skipped_to (λ (k : ℕ). TakeFrom k) (3 * c.args.tile + 1) c.args.self.now c.step_router.new.self c.args.from c.in-Some.input (c.in-Some.ensures.1).low
    (takes_asleep c.self.inside c.self.invariant c.args.self.now c.self.view_is c.args.tile c.args.from c.in-Some.input (c.in-Some.ensures.1).before)
    c.step_router.ensures.change
