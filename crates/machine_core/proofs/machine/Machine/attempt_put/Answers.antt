use Rattle.std.proofs.Common.{ℕ, ◌+◌, ◌*◌, ◌∙◌, arith}
use Rattle.torus.specs.declared.step.Choice.TheVariants.{Put}
use Rattle.machine_core.proofs.Standing.{few_tiles}
use Rattle.machine_core.proofs.Agents.{tile_within}
use Rattle.machine_core.proofs.Rounds.{tile_stays_once}
use Rattle.machine_core.proofs.Skips.{puts_asleep, skipped, skipped_to, idle_of}
use Rattle.machine_core.proofs.machine.Machine.attempt_put.Goals as goal

pub next_put-requires-clause-tile : goal.next_put-requires-clause-tile
next_put-requires-clause-tile g c =
    let few = few_tiles c.self.inside c.self.invariant in
    let long = c.self.inside.tiles.ok.0 in
    let low = tile_within c.self.inside c.self.invariant c.args.self.now c.self.view_is c.args.tile c.requires.tile in
    omega (arith, few, long, low)

-- none is left that counts as awake
pub returns-in_default : goal.returns-in_default
returns-in_default g c =
    record {
      state = skipped (λ (k : ℕ). Put k) (3 * c.args.tile + 1) c.args.self.now c.args.from c.args.ports
          (puts_asleep c.self.inside c.self.invariant c.args.self.now c.self.view_is c.args.tile c.args.from c.args.ports c.in_default.ensures);
      later = c.requires.from;
      within = omega arith;
    }

pub put_sleeps-requires-clause-tile : goal.put_sleeps-requires-clause-tile
put_sleeps-requires-clause-tile g c =
    tile_stays_once c.args.tile c.args.self.now c.step_router.new.self (record { agent = 3 * c.args.tile + 1; choice = Put c.in-Some.input })
    c.step_router.ensures.change c.requires.tile

pub put_sleeps-requires-clause-idle : goal.put_sleeps-requires-clause-idle
put_sleeps-requires-clause-idle g c =
    idle_of c.args.self.now c.step_router.new.self c.step_router.result (record { agent = 3 * c.args.tile + 1; choice = Put c.in-Some.input })
    c.step_router.ensures c.in-Idle.is

pub returns-in-Moved-clause-state : goal.returns-in-Moved-clause-state
returns-in-Moved-clause-state g c =
    skipped_to (λ (k : ℕ). Put k) (3 * c.args.tile + 1) c.args.self.now c.step_router.new.self c.args.from c.in-Some.input (c.in-Some.ensures.1).low
    (puts_asleep c.self.inside c.self.invariant c.args.self.now c.self.view_is c.args.tile c.args.from c.in-Some.input (c.in-Some.ensures.1).before)
    c.step_router.ensures.change

pub returns-in-Idle-clause-state : goal.returns-in-Idle-clause-state
returns-in-Idle-clause-state g c =
    c.put_sleeps.ensures
    ∙ skipped_to (λ (k : ℕ). Put k) (3 * c.args.tile + 1) c.args.self.now c.step_router.new.self c.args.from c.in-Some.input (c.in-Some.ensures.1).low
    (puts_asleep c.self.inside c.self.invariant c.args.self.now c.self.view_is c.args.tile c.args.from c.in-Some.input (c.in-Some.ensures.1).before)
    c.step_router.ensures.change
