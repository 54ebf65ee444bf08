use Rattle.std.proofs.Common.{◌≡◌, ◌+◌, ◌*◌, ◌<◌, ◌≤◌, None, refl, sym, ◌∙◌, ap, subst, arith}
use Rattle.std.specs.Prelude.{is_some}
use Rattle.torus.specs.Shape.{Shape, dims_of, tiles_of}
use Rattle.machine_parts.specs.ProgressMoves.{enabled_step}
use Rattle.machine_parts.specs.Machine.{Core, IsAfter, built_to}
use Rattle.machine_core.specs.Rounds.{first_in}
use Rattle.machine_core.proofs.Rounds.{all_parts}
use Rattle.machine_core.proofs.FirstEnabled.{picks, passes, tile_next, tile_past, tile_start}
use Rattle.machine_core.proofs.AskedSteps.{none_asked, all_asked, live_asked}
use Rattle.machine_core.proofs.machine.Machine.enabled_step.Goals as goal

pub loop-tile-init : goal.loop-tile-init
loop-tile-init g c =
    let now : Core = c.args.self.now in
    let shape : c.self.inside.torus ≡ c.args.self.now.shape = ap (λ (v : Core). v.shape) c.self.view_is in
    tile_start now (8 * c.dims.result + 2) (tiles_of now.shape)
    ∙ ap (first_in now) (all_parts now.shape c.dims.result (tiles_of now.shape) (c.dims.ensures.value ∙ ap dims_of shape) refl)

pub loop-tile-preserved : goal.loop-tile-preserved
loop-tile-preserved g c =
    let now : Core = c.args.self.now in
    let shape : c.self.inside.torus ≡ c.args.self.now.shape = ap (λ (v : Core). v.shape) c.self.view_is in
    let tiles = c.tiles-tile-end.ensures.value in
    let within = c.loop-tile-test.true in
    let low : c.loop-tile.tile < tiles_of now.shape = subst (λ (s : Shape). c.loop-tile.tile < tiles_of s) shape (omega (arith, tiles, within)) in
    sym (passes _ _ _ c.enabled_at-found.result (tile_next now (8 * c.dims.result + 2) (tiles_of now.shape) c.loop-tile.tile low) c.enabled_at-found.ensures
    (sym c.is_some.ensures ∙ c.if-is_some.false))
    ∙ c.loop-tile.invariant

pub returns-then-is_some-clause-value : goal.returns-then-is_some-clause-value
returns-then-is_some-clause-value g c =
    let now : Core = c.args.self.now in
    let shape : c.self.inside.torus ≡ c.args.self.now.shape = ap (λ (v : Core). v.shape) c.self.view_is in
    let tiles = c.tiles-tile-end.ensures.value in
    let within = c.loop-tile-test.true in
    let low : c.loop-tile.tile < tiles_of now.shape = subst (λ (s : Shape). c.loop-tile.tile < tiles_of s) shape (omega (arith, tiles, within)) in
    picks _ _ _ c.enabled_at-found.result (tile_next now (8 * c.dims.result + 2) (tiles_of now.shape) c.loop-tile.tile low) c.enabled_at-found.ensures
    (sym c.is_some.ensures ∙ c.if-is_some.true)
    ∙ c.loop-tile.invariant

pub returns-then-is_some-clause-none : goal.returns-then-is_some-clause-none
returns-then-is_some-clause-none g c =
    let value : c.enabled_at-found.result ≡ enabled_step (built_to c.args.self.now) c.args.self.now.state = returns-then-is_some-clause-value g c in
    let after = subst (λ (v : Core). IsAfter c.self.invariant.load v c.self.invariant.steps) c.self.view_is c.self.invariant.after in (
      λ none. none_asked c.self.invariant.load c.args.self.now c.self.invariant.steps after (sym value ∙ none),
      λ all. value ∙ all_asked c.self.invariant.load c.args.self.now c.self.invariant.steps after all,
    )

pub returns-clause-value : goal.returns-clause-value
returns-clause-value g c =
    let now : Core = c.args.self.now in
    let shape : c.self.inside.torus ≡ c.args.self.now.shape = ap (λ (v : Core). v.shape) c.self.view_is in
    let tiles = c.tiles-tile-end.ensures.value in
    let past = c.loop-tile-test.false in
    let end : tiles_of now.shape ≤ c.loop-tile.tile = subst (λ (s : Shape). tiles_of s ≤ c.loop-tile.tile) shape (omega (arith, tiles, past)) in
    sym (tile_past now (8 * c.dims.result + 2) (tiles_of now.shape) c.loop-tile.tile end) ∙ c.loop-tile.invariant

pub returns-clause-none : goal.returns-clause-none
returns-clause-none g c =
    let value : None ≡ enabled_step (built_to c.args.self.now) c.args.self.now.state = returns-clause-value g c in
    let after = subst (λ (v : Core). IsAfter c.self.invariant.load v c.self.invariant.steps) c.self.view_is c.self.invariant.after in (
      λ none. none_asked c.self.invariant.load c.args.self.now c.self.invariant.steps after (sym value),
      λ all. refl,
    )

pub returns-clause-live : goal.returns-clause-live
returns-clause-live g c = λ busy.
    let value : None ≡ enabled_step (built_to c.args.self.now) c.args.self.now.state = returns-clause-value g c in
    let after = subst (λ (v : Core). IsAfter c.self.invariant.load v c.self.invariant.steps) c.self.view_is c.self.invariant.after in
    ap is_some value ∙ live_asked c.self.invariant.load c.args.self.now c.self.invariant.steps after busy

pub enabled_at-found-requires-clause-ports : goal.enabled_at-found-requires-clause-ports
enabled_at-found-requires-clause-ports g c =
    let few = c.dims.ensures.accepted.dims_high in
    let same = c.dims.ensures.value in
    omega (arith, few, same)
