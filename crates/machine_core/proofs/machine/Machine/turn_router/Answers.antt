use Rattle.std.proofs.Common.{◌≡◌, ◌+◌, ◌*◌, sym, ◌∙◌, subst, arith}
use Rattle.machine_parts.specs.Core.{attempts_of}
use Rattle.machine_parts.specs.Machine.{Core, core_after}
use Rattle.torus.specs.Choices.{router_choices, takes_of_all, puts_of_all}
use Rattle.machine_core.proofs.Standing.{few_tiles, ports_few}
use Rattle.machine_core.proofs.Agents.{tile_within}
use Rattle.machine_core.proofs.Rounds.{router_parts, tile_stays}
use Rattle.machine_core.proofs.Sleeping.{of_router, slept, falls_asleep}
use Rattle.machine_core.proofs.machine.Machine.turn_router.Goals as goal

pub is_awake-requires : goal.is_awake-requires
is_awake-requires g c =
    let few = few_tiles c.self.inside c.self.invariant in
    let long = c.self.inside.tiles.ok.0 in
    let low = tile_within c.self.inside c.self.invariant c.args.self.now c.self.view_is c.args.tile c.requires.tile in
    omega (arith, few, long, low)

-- an agent that is asleep changes nothing
pub returns-then-not-is_awake : goal.returns-then-not-is_awake
returns-then-not-is_awake g c =
    subst (λ (x : Core). x ≡ core_after x (attempts_of (3 * c.args.tile + 1) (router_choices c.args.ports))) c.self.view_is
    (slept c.self.inside c.self.invariant (3 * c.args.tile + 1) (router_choices c.args.ports) (sym c.is_awake.ensures ∙ c.if-not-is_awake.true))

pub rest-requires : goal.rest-requires
rest-requires g c =
    let few = few_tiles c.self.inside c.self.invariant in
    let long = c.self.inside.tiles.ok.0 in
    let low = tile_within c.self.inside c.self.invariant c.args.self.now c.self.view_is c.args.tile c.requires.tile in
    omega (arith, few, long, low)

pub attempt_puts-requires-clause-tile : goal.attempt_puts-requires-clause-tile
attempt_puts-requires-clause-tile g c =
    tile_stays c.args.tile c.args.self.now c.attempt_takes.new.self (attempts_of (3 * c.args.tile + 1) (takes_of_all c.args.ports)) c.attempt_takes.ensures
    c.requires.tile

pub attempt_credits-requires-clause-tile : goal.attempt_credits-requires-clause-tile
attempt_credits-requires-clause-tile g c =
    let low = tile_stays c.args.tile c.args.self.now c.attempt_takes.new.self (attempts_of (3 * c.args.tile + 1) (takes_of_all c.args.ports))
    c.attempt_takes.ensures c.requires.tile in
    tile_stays c.args.tile c.attempt_takes.new.self c.attempt_puts.new.self (attempts_of (3 * c.args.tile + 1) (puts_of_all c.args.ports))
    c.attempt_puts.ensures low

-- a router has at most 26 ports
pub attempt_takes-requires-clause-ports : goal.attempt_takes-requires-clause-ports
attempt_takes-requires-clause-ports g c = ports_few c.self.inside c.self.invariant c.args.self.now c.self.view_is c.args.ports c.requires.ports

pub attempt_puts-requires-clause-ports : goal.attempt_puts-requires-clause-ports
attempt_puts-requires-clause-ports g c = ports_few c.self.inside c.self.invariant c.args.self.now c.self.view_is c.args.ports c.requires.ports

pub attempt_credits-requires-clause-ports : goal.attempt_credits-requires-clause-ports
attempt_credits-requires-clause-ports g c = ports_few c.self.inside c.self.invariant c.args.self.now c.self.view_is c.args.ports c.requires.ports

-- the three parts of the turn
pub returns-then-self-left : goal.returns-then-self-left
returns-then-self-left g c =
    c.self-2.view_is ∙ router_parts c.args.ports c.args.tile c.args.self.now c.attempt_takes.new.self c.attempt_puts.new.self c.attempt_credits.new.self
    c.attempt_takes.ensures c.attempt_puts.ensures c.attempt_credits.ensures

pub returns-else-self-left : goal.returns-else-self-left
returns-else-self-left g c =
    router_parts c.args.ports c.args.tile c.args.self.now c.attempt_takes.new.self c.attempt_puts.new.self c.attempt_credits.new.self c.attempt_takes.ensures
    c.attempt_puts.ensures c.attempt_credits.ensures

-- one of which no choice moved falls asleep
pub invariant_of-self : goal.invariant_of-self
invariant_of-self g c =
    falls_asleep c.self.inside c.self.invariant c.args.self.now c.self.view_is (3 * c.args.tile + 1) (router_choices c.args.ports)
    (of_router c.args.self.now.shape c.args.tile c.args.ports c.requires.ports)
    c.self-2.inside c.self-2.invariant c.attempt_credits.new.self c.self-2.view_is
    (router_parts c.args.ports c.args.tile c.args.self.now c.attempt_takes.new.self c.attempt_puts.new.self c.attempt_credits.new.self
    c.attempt_takes.ensures c.attempt_puts.ensures c.attempt_credits.ensures) c.if-self-left.true c.rest.new.self c.rest.ensures
