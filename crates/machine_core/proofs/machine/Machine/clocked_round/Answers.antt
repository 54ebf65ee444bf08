use Rattle.std.proofs.Common.{◌≡◌, ℕ, ◌<◌, ◌+◌, ◌*◌, ◌%◌, ◌++◌, refl, sym, ◌∙◌, ap, subst, arith}
use Rattle.std.specs.List.{flat_map, range_with_len}
use Rattle.torus.specs.Shape.{Shape, dims_of, tiles_of}
use Rattle.machine_parts.specs.Rounds.{moves_in}
use Rattle.machine_parts.specs.Core.{step}
use Rattle.machine_parts.specs.Machine.{Core, IsAfter, built_to, core_after}
use Rattle.machine_parts.proofs.Machines.{after_steps}
use Rattle.machine_parts.proofs.Moves.{left_after}
use Rattle.machine_core.specs.Clocked.{clocked_round}
use Rattle.machine_core.specs.Marked.{marked_at}
use Rattle.machine_core.proofs.Rounds.{part_more, tile_stays}
use Rattle.machine_core.proofs.ClockedRounds.{clocked_is, clocked_moves}
use Rattle.machine_core.proofs.machine.Machine.clocked_round.Given.{Over}
use Rattle.machine_core.proofs.machine.Machine.clocked_round.Goals as goal

pub loop-tile-init : goal.loop-tile-init
loop-tile-init g c = c.marks-marks.ensures.same

pub loop-tile-preserved : goal.loop-tile-preserved
loop-tile-preserved g c =
    part_more (marked_at c.marks-marks.result (8 * c.dims.result + 2) (c.args.turn % (8 * c.dims.result + 2))) c.loop-tile.tile c.args.self.now c.loop-tile.self c.attempt_at.new.self
    c.loop-tile.invariant c.attempt_at.ensures

pub attempt_at-requires-clause-tile : goal.attempt_at-requires-clause-tile
attempt_at-requires-clause-tile g c =
    let shape : c.self.inside.torus ≡ c.args.self.now.shape = ap (λ (v : Core). v.shape) c.self.view_is in
    let low : c.loop-tile.tile < tiles_of c.args.self.now.shape = subst (λ (s : Shape). c.loop-tile.tile < tiles_of s) shape (omega arith) in
    tile_stays c.loop-tile.tile c.args.self.now c.loop-tile.self
    (flat_map (marked_at c.marks-marks.result (8 * c.dims.result + 2) (c.args.turn % (8 * c.dims.result + 2))) (range_with_len 0 c.loop-tile.tile))
    c.loop-tile.invariant low

made : (g : Over) (c : goal.After-loop-tile g) → c.loop-tile.self ≡ core_after c.args.self.now (clocked_round c.args.self.now c.args.turn)
made g c =
    let shape : c.self.inside.torus ≡ c.args.self.now.shape = ap (λ (v : Core). v.shape) c.self.view_is in
    let end : c.loop-tile.tile ≡ tiles_of c.self.inside.torus = omega arith in
    c.loop-tile.invariant
    ∙ ap (core_after c.args.self.now)
    (clocked_is c.args.self.now c.marks-marks.result c.args.turn (8 * c.dims.result + 2) (c.args.turn % (8 * c.dims.result + 2)) c.loop-tile.tile
    (ap (λ (n : ℕ). 8 * n + 2) (c.dims.ensures.value ∙ ap dims_of shape)) refl (end ∙ ap tiles_of shape) c.marks-marks.ensures.marked)

pub returns-clause-state : goal.returns-clause-state
returns-clause-state g c = made g c

-- where the machine stood
before : (g : Over) (c : goal.After-loop-tile g) → IsAfter c.self.invariant.load c.args.self.now c.self.invariant.steps
before g c = subst (λ (x : Core). IsAfter c.self.invariant.load x c.self.invariant.steps) c.self.view_is c.self.invariant.after

pub returns-clause-moves : goal.returns-clause-moves
returns-clause-moves g c =
    let now : Core = c.args.self.now in
    ap (λ (x : Core). x.moves_left + moves_in (step (built_to now)) now.state (clocked_round now c.args.turn)) (made g c)
    ∙ left_after c.self.invariant.load now c.self.invariant.steps (before g c) (clocked_round now c.args.turn)

pub returns-clause-live : goal.returns-clause-live
returns-clause-live g c = clocked_moves c.self.invariant.load c.args.self.now c.self.invariant.steps (before g c) c.args.turn

pub returns-clause-runs_on : goal.returns-clause-runs_on
returns-clause-runs_on g c = λ l before h.
    let now : Core = c.args.self.now in
    subst (λ (x : Core). IsAfter l x (before ++ clocked_round now c.args.turn)) (sym (made g c)) (after_steps l now before (clocked_round now c.args.turn) h)
