-- The agents of a tile with their ports, and what an attempt of one of them does by one word.
use Rattle.std.specs.Prelude.{ℕ, zero, suc, ◌+◌, ◌*◌, ◌/◌, ◌%◌, ◌==◌, if◌then◌else◌, Option, None, option_map}
use Rattle.torus.specs.Shape.{Shape, tiles_of}
use Rattle.torus.specs.declared.step.Step.{Step}
use Rattle.torus.specs.declared.step.Choice.{Choice}
use Rattle.flit_buffer.specs.Agent.{Agent as WithPorts, next_op, absorbed}
use Rattle.flit_buffer.specs.Surroundings.{Surroundings, Wiring, ports_of}
use Rattle.flit_buffer.specs.declared.want.Want.{Want}
use Rattle.flit_buffer.specs.declared.word_op.WordOp.{WordOp}
use Rattle.router.specs.Beginning.{router_wiring}
use Rattle.router.specs.Table.{RouterState, router_wants, router_after}
use Rattle.one_order.specs.ProcessorTable.{ProcessorState, processor_wants, processor_after}
use Rattle.home_bank.specs.BankTable.{BankState, bank_wants, bank_after}
use Rattle.tile.specs.Wiring.{processor_wiring, bank_wiring}
use Rattle.tile.specs.declared.agent.Agent.{Agent}
use Rattle.tile.specs.declared.agent.Agent.TheVariants.{Processor, Router, Bank}
use Rattle.tile.specs.Tile.{Design, TileState}

-- the number of an agent of a tile: tile t has the agents 3t, 3t + 1 and 3t + 2 (this project's own
-- format)
abbrev pub agent_number : ℕ → Agent → ℕ
agent_number t Processor = 3 * t
agent_number t Router = 3 * t + 1
agent_number t Bank = 3 * t + 2

-- the agents of a tile in the order of their numbers
abbrev pub agent_numbered : ℕ → Agent
agent_numbered zero = Processor
agent_numbered (suc zero) = Router
agent_numbered (suc (suc k)) = Bank

-- the tile of the agent of a number
abbrev pub agent_tile : ℕ → ℕ
agent_tile agent = agent / 3

-- which agent of its tile the agent of a number is
abbrev pub agent_kind : ℕ → Agent
agent_kind agent = agent_numbered (agent % 3)

-- the channels of an agent of a tile (this project's own format)
abbrev pub wiring_of : Shape → ℕ → Agent → Wiring
wiring_of s t Processor = processor_wiring s t
wiring_of s t Router = router_wiring s t
wiring_of s t Bank = bank_wiring s t

-- what a choice of an agent of a tile wants; None where the agent hasn't the choice or its own part
-- of the condition fails (this project's own format)
abbrev pub tile_wants : Design → ℕ → TileState → Agent → Choice → Option Want
tile_wants d t tile Processor choice =
    processor_wants (tiles_of d.shape) d.words t tile.processor choice
tile_wants d t tile Router choice = router_wants d.shape t tile.router choice
tile_wants d t tile Bank choice = bank_wants (tiles_of d.shape) t tile.bank choice

-- a tile in its place: what the machine is built to, the tile's number, and its three agents with
-- their ports (this project's own format)
pub record TilePlace : Type 0 where
  pub design : Design
  pub tile : ℕ
  pub processor : WithPorts ProcessorState
  pub router : WithPorts RouterState
  pub bank : WithPorts BankState

-- the agents' own states
abbrev pub state_of : TilePlace → TileState
state_of p = record { processor = p.processor.state; router = p.router.state; bank = p.bank.state }

-- a tile as its state and the surroundings have it: each agent's ports are the ends of its channels
-- (this project's own format)
abbrev pub tile_placed : Design → ℕ → TileState → Surroundings → TilePlace
tile_placed d t tile around = record {
  design = d;
  tile = t;
  processor = record {
    state = tile.processor;
    ports = ports_of d.depth around (processor_wiring d.shape t);
  };
  router = record {
    state = tile.router;
    ports = ports_of d.depth around (router_wiring d.shape t);
  };
  bank = record { state = tile.bank; ports = ports_of d.depth around (bank_wiring d.shape t) };
}

-- the word operation by which a choice of one of the tile's agents is tried; None where the agent
-- hasn't the choice or its condition fails (this project's own format)
abbrev pub agent_op : TilePlace → Agent → Choice → Option WordOp
agent_op p Processor choice =
    next_op (processor_wants (tiles_of p.design.shape) p.design.words p.tile) p.processor choice
agent_op p Router choice = next_op (router_wants p.design.shape p.tile) p.router choice
agent_op p Bank choice = next_op (bank_wants (tiles_of p.design.shape) p.tile) p.bank choice

-- the tile after the operation of a choice of one of its agents found a word: that agent has made
-- its step, the others are as they were; None where the choice doesn't move (this project's own
-- format)
abbrev pub agent_absorbed : TilePlace → Agent → Choice → ℕ → Option TilePlace
agent_absorbed p Processor choice found = option_map (λ a. record p { processor = a })
    (absorbed (processor_wants (tiles_of p.design.shape) p.design.words p.tile)
    (processor_after (tiles_of p.design.shape) p.design.words p.tile) p.processor choice found)
agent_absorbed p Router choice found = option_map (λ a. record p { router = a })
    (absorbed (router_wants p.design.shape p.tile) router_after p.router choice found)
agent_absorbed p Bank choice found = option_map (λ a. record p { bank = a })
    (absorbed (bank_wants (tiles_of p.design.shape) p.tile)
    (bank_after (tiles_of p.design.shape) p.tile) p.bank choice found)

-- the word operation of an attempt; None also where it is of another tile (this project's own
-- format)
abbrev pub tile_next_op : TilePlace → Step → Option WordOp
tile_next_op p attempt =
    if agent_tile attempt.agent == p.tile
    then agent_op p (agent_kind attempt.agent) attempt.choice
    else None

-- the tile after the operation of an attempt found a word; None where the attempt doesn't move, and
-- where it is of another tile (this project's own format)
abbrev pub tile_absorbed : TilePlace → Step → ℕ → Option TilePlace
tile_absorbed p attempt found =
    if agent_tile attempt.agent == p.tile
    then agent_absorbed p (agent_kind attempt.agent) attempt.choice found
    else None
