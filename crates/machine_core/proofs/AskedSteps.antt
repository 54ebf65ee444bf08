-- What a machine is asked of its next step: a tile's answer over the row is whether the step is enabled, and the first
-- step of a round that is enabled tells whether there is any.
use Rattle.std.proofs.Common.{◌≡◌, ◌≤◌, false, List, length, Option, Some, None, refl, sym, ◌∙◌, ap, slice_get, slice_set}
use Rattle.std.specs.Prelude.{MatchOption, is_some}
use Rattle.std.specs.Option.{IsSome}
use Rattle.torus.specs.declared.step.Step.{Step}
use Rattle.flit_buffer.specs.Tries.{performed_by}
use Rattle.tile.specs.Tile.{Design}
use Rattle.tile.specs.Agents.{TilePlace, tile_next_op, agent_tile}
use Rattle.machine_parts.specs.Placed.{PlacedTile, tile_attempted}
use Rattle.machine_parts.specs.Core.{Load, State, design_of, step, after}
use Rattle.machine_parts.specs.Runs.{state_after}
use Rattle.machine_parts.proofs.RowOfRuns.{all_steps}
use Rattle.machine_parts.specs.ProgressMoves.{enabled_step, IsLive}
use Rattle.machine_parts.proofs.Live.{is_live}
use Rattle.machine_parts.proofs.OfRound.{found_is, none_is}
use Rattle.machine_parts.specs.Seen.{IsShown}
use Rattle.machine_parts.specs.Machine.{Core, IsAfter, built_to, all_finished}
use Rattle.machine_core.specs.declared.machine.Machine.TheInside.{Inside}
use Rattle.machine_core.specs.Inside.{core_of, places_in, IsMachine}
use Rattle.machine_core.proofs.Standing.{none_past}
use Rattle.machine_core.proofs.Attempting.{leads, step_is}
use Rattle.machine_parts.proofs.Moves.{built, same_finished}

module _ {A : Type 0} (a : Inside A) (is : IsMachine a) (attempt : Step) where
  -- a tile that isn't there makes no step
  pub past_asked : length a.tiles.items ≤ agent_tile attempt.agent → false ≡ is_some (step (built_to (core_of a)) (core_of a).state attempt)
  past_asked h = sym (ap is_some (none_past a is attempt h))

  -- a tile that is there moves exactly where the step is enabled
  pub tile_asked : (v : PlacedTile) → slice_get a.tiles.items (agent_tile attempt.agent) ≡ Some v
      → is_some (tile_attempted v.place attempt a.row.items) ≡ is_some (step (built_to (core_of a)) (core_of a).state attempt)
  tile_asked v there = by_tile (tile_attempted v.place attempt a.row.items) (leads a is attempt v there) ∙ ap is_some (sym (step_is a is attempt))
    where
      by_tile : (o : Option TilePlace)
          → MatchOption o ((step (design_of is.load) (after is.load is.steps) attempt ≡ None)
          × (performed_by a.row.items (tile_next_op v.place attempt) ≡ a.row.items))
          (λ q. (next : State) × (step (design_of is.load) (after is.load is.steps) attempt ≡ Some next)
          × IsShown (design_of is.load) next (slice_set (places_in a) (agent_tile attempt.agent) q) (performed_by a.row.items (tile_next_op v.place attempt)))
          → is_some o ≡ is_some (step (design_of is.load) (after is.load is.steps) attempt)
      by_tile None h = sym (ap is_some h.0)
      by_tile (Some q) h = sym (ap is_some h.1)

-- of a machine that stands where some steps lead from a load
module _ (l : Load) (c : Core) (steps : List Step) (h : IsAfter l c steps) where
  abbrev s : State
  s = state_after l steps (length steps)

  state_is : c.state ≡ s
  state_is = h.state ∙ sym (all_steps l steps)

  step_same : (attempt : Step) → step (built_to c) c.state attempt ≡ step (design_of l) s attempt
  step_same attempt = ap (λ (d : Design). step d c.state attempt) (built l c steps h) ∙ ap (λ (x : State). step (design_of l) x attempt) state_is

  first_same : enabled_step (built_to c) c.state ≡ enabled_step (design_of l) s
  first_same = ap (λ (d : Design). enabled_step d c.state) (built l c steps h) ∙ ap (enabled_step (design_of l)) state_is

  -- where no first step is found, none is enabled
  pub none_asked : enabled_step (built_to c) c.state ≡ None → (attempt : Step) → step (built_to c) c.state attempt ≡ None
  none_asked none attempt = by_step (step (built_to c) c.state attempt) refl
    where
      by_step : (o : Option State) → step (built_to c) c.state attempt ≡ o → o ≡ None
      by_step None e = refl
      by_step (Some t) e = absurd (none_is l h.accepted steps (length steps) (sym first_same ∙ none) attempt (t, sym (step_same attempt) ∙ e))

  -- and where none is enabled, no first step is found
  pub all_asked : ((attempt : Step) → step (built_to c) c.state attempt ≡ None) → enabled_step (built_to c) c.state ≡ None
  all_asked none = by_first (enabled_step (built_to c) c.state) refl
    where
      by_first : (o : Option Step) → enabled_step (built_to c) c.state ≡ o → o ≡ None
      by_first None e = refl
      by_first (Some a) e =
          let k = found_is l h.accepted steps (length steps) a (sym first_same ∙ e) in
          let moves : None ≡ Some k.0 = sym (none a) ∙ (step_same a ∙ k.1) in
          absurd (cc)

  -- while a script isn't finished, a first step is found
  pub live_asked : all_finished c.state ≡ false → IsSome (enabled_step (built_to c) c.state)
  live_asked busy =
      let live : IsLive (design_of l) s = is_live l h.accepted steps (length steps) (sym (same_finished s) ∙ (ap all_finished (sym state_is) ∙ busy)) in
      ap is_some (first_same ∙ live.1)
