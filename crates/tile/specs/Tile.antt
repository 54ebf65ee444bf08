-- A tile: its three agents, and the step that one of them makes.
use Rattle.std.specs.Prelude.{ℕ, Option, option_map}
use Rattle.torus.specs.Shape.{Shape, tiles_of}
use Rattle.torus.specs.declared.step.Choice.{Choice}
use Rattle.tile.specs.declared.agent.Agent.{Agent}
use Rattle.tile.specs.declared.agent.Agent.TheVariants.{Processor, Router, Bank}
use Rattle.flit_buffer.specs.Surroundings.{Surroundings, agent_step}
use Rattle.router.specs.Table.{RouterState, router_wants, router_after}
use Rattle.one_order.specs.ProcessorTable.{ProcessorState, processor_wants, processor_after}
use Rattle.home_bank.specs.BankTable.{BankState, bank_wants, bank_after}
use Rattle.tile.specs.Wiring.{processor_wiring, bank_wiring}
use Rattle.router.specs.Beginning.{router_wiring}

-- what a machine is built to: the torus, the depth of a channel, and the number of words of the
-- memory
pub record Design : Type 0 where
  pub shape : Shape
  pub depth : ℕ
  pub words : ℕ

-- the state of a tile: of its processor, its router and its bank
pub record TileState : Type 0 where
  pub processor : ProcessorState
  pub router : RouterState
  pub bank : BankState

module _ (d : Design) (t : ℕ) where
  -- the tile and the surroundings after a choice of one of its agents; None where it isn't enabled
  -- (Dally and Towles, chapters 13 and 16)
  abbrev pub tile_step : TileState → Surroundings → Agent → Choice
      → Option (TileState × Surroundings)
  tile_step tile around Processor choice = option_map (λ p. (record tile { processor = p.0 }, p.1))
      (agent_step (processor_wants (tiles_of d.shape) d.words t)
      (processor_after (tiles_of d.shape) d.words t) d.depth
      (processor_wiring d.shape t) tile.processor around choice)
  tile_step tile around Router choice = option_map (λ p. (record tile { router = p.0 }, p.1))
      (agent_step (router_wants d.shape t) router_after d.depth
      (router_wiring d.shape t) tile.router around choice)
  tile_step tile around Bank choice = option_map (λ p. (record tile { bank = p.0 }, p.1))
      (agent_step (bank_wants (tiles_of d.shape) t) (bank_after (tiles_of d.shape) t) d.depth
      (bank_wiring d.shape t) tile.bank around choice)
