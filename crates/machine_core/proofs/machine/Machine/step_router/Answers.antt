use Rattle.std.proofs.Common.{◌≡◌, ◌+◌, ◌-◌, ◌*◌, Some, refl, arith, slice_get, slice_set, slice_index}
use Rattle.std.specs.Vec.{with_item}
use Rattle.torus.specs.declared.step.Stepped.TheVariants.{Moved}
use Rattle.flit_buffer.specs.Words.{word_of}
use Rattle.flit_buffer.specs.declared.word_op.WordOp.{WordOp}
use Rattle.tile.specs.declared.agent.Agent.TheVariants.{Router}
use Rattle.tile.specs.Agents.{agent_op, agent_absorbed}
use Rattle.tile.proofs.AgentNumbers.{tile_of_number, kind_of_number}
use Rattle.machine_parts.specs.Placed.{PlacedTile, agent_attempted}
use Rattle.machine_core.proofs.Fields.{Led, vec_at, with_parts, moved_tile, idle_tile}
use Rattle.machine_core.proofs.Standing.{few_tiles}
use Rattle.machine_core.proofs.Agents.{tile_within, agent_word, agent_fits, agent_idle, agent_left, router_moved}
use Rattle.machine_core.proofs.machine.Machine.step_router.Given.{Over}
use Rattle.machine_core.proofs.machine.Machine.step_router.Goals as goal

pub attempt_router-requires-clause-room : goal.attempt_router-requires-clause-room
attempt_router-requires-clause-room g c =
    agent_word c.self.inside c.self.invariant (record { agent = 3 * c.args.tile + 1; choice = c.args.choice }) c.args.tile Router
    (tile_of_number c.args.tile Router) (kind_of_number c.args.tile Router)
    c.index_mut.result.now (vec_at c.self.inside.tiles c.args.tile c.index_mut.result.now
    (tile_within c.self.inside c.self.invariant c.args.self.now c.self.view_is c.args.tile c.requires) c.index_mut.ensures.value)

pub attempt_router-requires-clause-flit : goal.attempt_router-requires-clause-flit
attempt_router-requires-clause-flit g c =
    agent_fits c.self.inside c.self.invariant (record { agent = 3 * c.args.tile + 1; choice = c.args.choice }) c.args.tile Router
    (tile_of_number c.args.tile Router) (kind_of_number c.args.tile Router)
    c.index_mut.result.now (vec_at c.self.inside.tiles c.args.tile c.index_mut.result.now
    (tile_within c.self.inside c.self.invariant c.args.self.now c.self.view_is c.args.tile c.requires) c.index_mut.ensures.value)

pub overflow_sub-self : goal.overflow_sub-self
overflow_sub-self g c =
    let v : PlacedTile = c.index_mut.result.now in
    let at : slice_get c.self.inside.tiles.items c.args.tile ≡ Some v =
    vec_at c.self.inside.tiles c.args.tile c.index_mut.result.now
    (tile_within c.self.inside c.self.invariant c.args.self.now c.self.view_is c.args.tile c.requires) c.index_mut.ensures.value in
    let k = moved_tile (agent_attempted v.place Router c.args.choice c.self.inside.row.items) c.in-Some.op (agent_op v.place Router c.args.choice) v
    c.attempt_router.new.self c.in-Some.ensures.step in
    let some = agent_left c.self.inside c.self.invariant (record { agent = 3 * c.args.tile + 1; choice = c.args.choice }) c.args.tile Router
    (tile_of_number c.args.tile Router) (kind_of_number c.args.tile Router) v
    at k.0 k.1 c.attempt_router.new.self k.2 (slice_set c.self.inside.tiles.items c.args.tile c.attempt_router.new.self) refl
    c.attempt_router.new.row.items c.attempt_router.ensures.row in
    omega (arith, some)

led : (g : Over) (c : goal.After-self-2-1 g)
    → Led c.self.inside (with_parts c.self.inside (with_item c.self.inside.tiles c.args.tile c.attempt_router.new.self) c.attempt_router.new.row
    c.self.inside.book c.moved.new.self c.router_moved.new.self (c.self.inside.left - 1)) Moved (record { agent = 3 * c.args.tile + 1; choice = c.args.choice })
led g c =
    let v : PlacedTile = c.index_mut.result.now in
    let at : slice_get c.self.inside.tiles.items c.args.tile ≡ Some v =
    vec_at c.self.inside.tiles c.args.tile c.index_mut.result.now
    (tile_within c.self.inside c.self.invariant c.args.self.now c.self.view_is c.args.tile c.requires) c.index_mut.ensures.value in
    let k = moved_tile (agent_attempted v.place Router c.args.choice c.self.inside.row.items) c.in-Some.op (agent_op v.place Router c.args.choice) v
    c.attempt_router.new.self c.in-Some.ensures.step in
    router_moved c.self.inside c.self.invariant (record { agent = 3 * c.args.tile + 1; choice = c.args.choice }) c.args.tile
    (tile_of_number c.args.tile Router) (kind_of_number c.args.tile Router) v at
    k.0 k.1 c.attempt_router.new.self k.2
    (with_item c.self.inside.tiles c.args.tile c.attempt_router.new.self) refl c.attempt_router.new.row c.attempt_router.ensures.row
    c.in-Some.op k.3 c.moved.new.self c.moved.ensures c.router_moved.new.self
    (record { design = c.router_moved.ensures.design; flags = c.router_moved.ensures.flags })

pub invariant_of-self-2 : goal.invariant_of-self-2
invariant_of-self-2 g c = (led g c).machine

pub returns : goal.returns
returns g c = rw (← c.self.view_is) (led g c).steps

pub invariant_of-self : goal.invariant_of-self
invariant_of-self g c =
    let v : PlacedTile = c.index_mut.result.now in
    let at : slice_get c.self.inside.tiles.items c.args.tile ≡ Some v =
    vec_at c.self.inside.tiles c.args.tile c.index_mut.result.now
    (tile_within c.self.inside c.self.invariant c.args.self.now c.self.view_is c.args.tile c.requires) c.index_mut.ensures.value in
    let k = idle_tile (λ (o : WordOp). agent_absorbed v.place Router c.args.choice (slice_index c.self.inside.row.items (word_of o)))
    (agent_op v.place Router c.args.choice) v c.attempt_router.new.self c.in_default.ensures.step in
    (agent_idle c.self.inside c.self.invariant (record { agent = 3 * c.args.tile + 1; choice = c.args.choice }) c.args.tile Router
    (tile_of_number c.args.tile Router) (kind_of_number c.args.tile Router) v
    at
    (with_item c.self.inside.tiles c.args.tile c.attempt_router.new.self) c.attempt_router.new.row k.0 c.attempt_router.new.self k.1 refl
    c.attempt_router.ensures.row).machine

pub returns-in_default : goal.returns-in_default
returns-in_default g c =
    let v : PlacedTile = c.index_mut.result.now in
    let at : slice_get c.self.inside.tiles.items c.args.tile ≡ Some v =
    vec_at c.self.inside.tiles c.args.tile c.index_mut.result.now
    (tile_within c.self.inside c.self.invariant c.args.self.now c.self.view_is c.args.tile c.requires) c.index_mut.ensures.value in
    let k = idle_tile (λ (o : WordOp). agent_absorbed v.place Router c.args.choice (slice_index c.self.inside.row.items (word_of o)))
    (agent_op v.place Router c.args.choice) v c.attempt_router.new.self c.in_default.ensures.step in
    rw (← c.self.view_is) (agent_idle c.self.inside c.self.invariant (record { agent = 3 * c.args.tile + 1; choice = c.args.choice }) c.args.tile Router
    (tile_of_number c.args.tile Router) (kind_of_number c.args.tile Router) v
    at
    (with_item c.self.inside.tiles c.args.tile c.attempt_router.new.self) c.attempt_router.new.row k.0 c.attempt_router.new.self k.1 refl
    c.attempt_router.ensures.row).steps

pub router_moved-requires : goal.router_moved-requires
router_moved-requires g c =
    let few = few_tiles c.self.inside c.self.invariant in
    let long = c.self.inside.tiles.ok.0 in
    let low = tile_within c.self.inside c.self.invariant c.args.self.now c.self.view_is c.args.tile c.requires in
    omega (arith, few, long, low)

-- there are bits for its agents
pub moved-requires : goal.moved-requires
moved-requires g c =
    let few = few_tiles c.self.inside c.self.invariant in
    let long = c.self.inside.tiles.ok.0 in
    let low = tile_within c.self.inside c.self.invariant c.args.self.now c.self.view_is c.args.tile c.requires in
    omega (arith, few, long, low)
