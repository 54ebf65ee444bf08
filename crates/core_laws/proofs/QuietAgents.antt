-- Where the routers' steps keep what holds, all steps that are no issue, service or answer do.
use Rattle.std.proofs.Common.{◌≡◌, ℕ, ◌<◌, List, None, refl}
use Rattle.torus.specs.Shape.{IsAccepted, tiles_of}
use Rattle.torus.specs.declared.step.Choice.{Choice}
use Rattle.torus.specs.declared.step.Step.{Step}
use Rattle.one_order.specs.Order.{LinearizationPoint}
use Rattle.tile.specs.declared.agent.Agent.{Agent}
use Rattle.tile.specs.declared.agent.Agent.TheVariants.{Processor, Router, Bank}
use Rattle.tile.specs.Tile.{Design, tile_step}
use Rattle.tile.specs.Agents.{agent_kind}
use Rattle.core_laws.specs.Core.{State, next}
use Rattle.core_laws.specs.Moves.{move_of}
use Rattle.core_laws.specs.Network.{tile_event, network_event}
use Rattle.core_laws.proofs.QuietSteps.{Stays, with_tile, attempt_stays}
use Rattle.core_laws.proofs.ProcessorQuiet.{processor_quiet}
use Rattle.core_laws.proofs.BankQuiet.{bank_quiet}
use Rattle.core_laws.proofs.Stands.{Ghost, Stands, tile_at}

module _ (d : Design) (accepted : IsAccepted d.shape) (tags : ℕ) (opening : List ℕ) (s : State) (g : Ghost) (order : List LinearizationPoint)
    (st : Stands d tags opening s g order)
    (router : (t : ℕ) → t < tiles_of d.shape → (choice : Choice)
    → Stays d tags opening g order (with_tile s t (tile_step d t (tile_at s t) s.around Router choice))
    (tile_event d t (tile_at s t) s.around Router choice)) where
  by_agent : (attempt : Step) (agent : Agent) → agent_kind attempt.agent ≡ agent → move_of d s attempt ≡ None
      → Stays d tags opening g order (next d s attempt) (network_event d s attempt)
  by_agent attempt Processor is h = processor_quiet d accepted tags opening s g order st attempt is h
  by_agent attempt Router is h = attempt_stays d tags opening s g order st Router (λ t t_in choice none. router t t_in choice) attempt is h
  by_agent attempt Bank is h = bank_quiet d accepted tags opening s g order st attempt is h

  pub agents_quiet : (attempt : Step) → move_of d s attempt ≡ None → Stays d tags opening g order (next d s attempt) (network_event d s attempt)
  agents_quiet attempt h = by_agent attempt (agent_kind attempt.agent) refl h
