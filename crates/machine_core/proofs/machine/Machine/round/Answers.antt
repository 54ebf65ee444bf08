use Rattle.std.proofs.Common.{◌≡◌, ℕ, ◌<◌, ◌+◌, ◌*◌, ◌++◌, refl, sym, ◌∙◌, ap, subst, arith}
use Rattle.std.specs.List.{flat_map, range_with_len}
use Rattle.torus.specs.Shape.{Shape, dims_of, tiles_of}
use Rattle.machine_parts.specs.Rounds.{moves_in}
use Rattle.machine_parts.specs.Core.{step, round_at, round}
use Rattle.machine_parts.specs.Machine.{Core, IsAfter, built_to, core_after}
use Rattle.machine_parts.proofs.Machines.{after_steps}
use Rattle.machine_parts.proofs.Moves.{left_after, round_moves}
use Rattle.machine_core.proofs.Rounds.{part_more, all_parts, tile_stays, same_shape}
use Rattle.machine_core.proofs.machine.Machine.round.Given.{Over}
use Rattle.machine_core.proofs.machine.Machine.round.Goals as goal

pub loop-tile-init : goal.loop-tile-init
loop-tile-init g c = refl

pub loop-tile-preserved : goal.loop-tile-preserved
loop-tile-preserved g c =
    part_more (round_at (8 * c.dims.result + 2)) c.loop-tile.tile c.args.self.now c.loop-tile.self c.round_at.new.self c.loop-tile.invariant c.round_at.ensures

pub returns-clause-state : goal.returns-clause-state
returns-clause-state g c =
    let shape : c.self.inside.torus ≡ c.args.self.now.shape = ap (λ (v : Core). v.shape) c.self.view_is in
    let end : c.loop-tile.tile ≡ tiles_of c.self.inside.torus = omega arith in
    c.loop-tile.invariant
    ∙ ap (core_after c.args.self.now)
    (all_parts c.args.self.now.shape c.dims.result c.loop-tile.tile (c.dims.ensures.value ∙ ap dims_of shape) (end ∙ ap tiles_of shape))

-- where the machine stood
before : (g : Over) (c : goal.After-loop-tile g) → IsAfter c.self.invariant.load c.args.self.now c.self.invariant.steps
before g c = subst (λ (x : Core). IsAfter c.self.invariant.load x c.self.invariant.steps) c.self.view_is c.self.invariant.after

pub returns-clause-moves : goal.returns-clause-moves
returns-clause-moves g c =
    let now : Core = c.args.self.now in
    let made : c.loop-tile.self ≡ core_after now (round now.shape) = returns-clause-state g c in
    ap (λ (x : Core). x.moves_left + moves_in (step (built_to now)) now.state (round now.shape)) made
    ∙ left_after c.self.invariant.load now c.self.invariant.steps (before g c) (round now.shape)

pub returns-clause-live : goal.returns-clause-live
returns-clause-live g c = round_moves c.self.invariant.load c.args.self.now c.self.invariant.steps (before g c)

pub returns-clause-runs_on : goal.returns-clause-runs_on
returns-clause-runs_on g c = λ l before h.
    let now : Core = c.args.self.now in
    let made : c.loop-tile.self ≡ core_after now (round now.shape) = returns-clause-state g c in
    subst (λ (x : Core). IsAfter l x (before ++ round now.shape)) (sym made) (after_steps l now before (round now.shape) h)

pub round_at-requires-clause-tile : goal.round_at-requires-clause-tile
round_at-requires-clause-tile g c =
    let shape : c.self.inside.torus ≡ c.args.self.now.shape = ap (λ (v : Core). v.shape) c.self.view_is in
    let low : c.loop-tile.tile < tiles_of c.args.self.now.shape = subst (λ (s : Shape). c.loop-tile.tile < tiles_of s) shape (omega arith) in
    tile_stays c.loop-tile.tile c.args.self.now c.loop-tile.self (flat_map (round_at (8 * c.dims.result + 2)) (range_with_len 0 c.loop-tile.tile))
    c.loop-tile.invariant low

pub round_at-requires-clause-ports : goal.round_at-requires-clause-ports
round_at-requires-clause-ports g c =
    let shape : c.self.inside.torus ≡ c.args.self.now.shape = ap (λ (v : Core). v.shape) c.self.view_is in
    let kept : c.loop-tile.self.shape ≡ c.args.self.now.shape = ap (λ (x : Core). x.shape) c.loop-tile.invariant
    ∙ same_shape c.args.self.now (flat_map (round_at (8 * c.dims.result + 2)) (range_with_len 0 c.loop-tile.tile)) in
    ap (λ (n : ℕ). 8 * n + 2) (c.dims.ensures.value ∙ (ap dims_of shape ∙ ap dims_of (sym kept)))
