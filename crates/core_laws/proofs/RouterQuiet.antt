-- A router's step, enabled or not, leaves a state that stands.
use Rattle.std.proofs.Common.{◌≡◌, ℕ, ◌<◌, List, Option, Some, None, refl}
use Rattle.std.specs.Prelude.{option_and_then, option_map}
use Rattle.torus.specs.Shape.{IsAccepted, tiles_of}
use Rattle.torus.specs.declared.step.Choice.{Choice}
use Rattle.one_order.specs.Order.{LinearizationPoint}
use Rattle.flit_buffer.specs.Surroundings.{Surroundings}
use Rattle.router.specs.Table.{RouterState, router_wants, router_after}
use Rattle.router.specs.Beginning.{router_wiring}
use Rattle.one_order.specs.Flight.{Move}
use Rattle.wormhole.specs.Events.{NetEvent}
use Rattle.tile.specs.declared.agent.Agent.TheVariants.{Router}
use Rattle.tile.specs.Tile.{Design, tile_step}
use Rattle.core_laws.specs.Core.{State}
use Rattle.core_laws.specs.Moves.{learned_by}
use Rattle.core_laws.specs.Network.{router_event, tile_event}
use Rattle.core_laws.proofs.NoZeroFlits.{latched_some}
use Rattle.core_laws.proofs.QuietSteps.{Stays, agent_stays, with_tile}
use Rattle.core_laws.proofs.RouterChoices.{then_router}
use Rattle.core_laws.proofs.Stands.{Ghost, Stands, tile_at}

-- a router makes no move of the operations
abbrev no_move : ℕ → Option Move
no_move learned = None

never : (o : Option ℕ) → option_and_then no_move o ≡ None
never None = refl
never (Some learned) = refl

module _ (d : Design) (accepted : IsAccepted d.shape) (tags : ℕ) (opening : List ℕ) (s : State) (g : Ghost) (order : List LinearizationPoint)
    (st : Stands d tags opening s g order) where
  -- A step of a tile's router keeps what holds of every reached state.
  pub router_steps : (t : ℕ) → t < tiles_of d.shape → (choice : Choice)
      → Stays d tags opening g order (with_tile s t (tile_step d t (tile_at s t) s.around Router choice)) (tile_event d t (tile_at s t) s.around Router choice)
  router_steps t t_in choice =
      agent_stays (router_wants d.shape t) router_after d.depth (router_wiring d.shape t) (tile_at s t).router s.around choice no_move
      (router_event d t (tile_at s t).router s.around choice)
      (λ (o : Option (RouterState × Surroundings)) (e : Option NetEvent). Stays d tags opening g order
      (with_tile s t (option_map (λ q. (record (tile_at s t) { router = q.0 }, q.1)) o)) e)
      (record { stands = st; may = tt })
      (λ w learned is grants none. then_router d accepted tags opening s g order st t t_in
      (λ i flit i_in full. latched_some d accepted tags opening s g order st t i flit t_in i_in full) choice w learned is grants)
      (never (learned_by (router_wants d.shape t) (router_wiring d.shape t) (tile_at s t).router s.around choice))
