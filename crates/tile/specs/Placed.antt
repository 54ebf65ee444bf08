-- A tile in its place with the room of its bank: what its agents ask, and an attempt over a row at
-- once.
use Rattle.std.specs.Prelude.{ℕ, ◌<◌, List, length, slice_index, Option, option_and_then}
use Rattle.torus.specs.Shape.{dims_of}
use Rattle.torus.specs.declared.step.Choice.{Choice}
use Rattle.torus.specs.declared.step.Choice.TheVariants as choice
use Rattle.torus.specs.declared.step.Step.{Step}
use Rattle.script_lines.specs.declared.line.Line.{Line}
use Rattle.flit_buffer.specs.Words.{word_of}
use Rattle.channel_number.specs.Ports.{port_count}
use Rattle.router.specs.Table.{IsRoutable, empty_router}
use Rattle.home_bank.specs.BankAgent.{IsAcceptableToBank}
use Rattle.home_bank.specs.Beginning.{empty_bank}
use Rattle.one_order.specs.ProcessorTable.{ProcessorState}
use Rattle.net_interface.specs.Place.{IsAcceptableToProcessor}
use Rattle.net_interface.specs.Beginning.{first_processor}
use Rattle.tile.specs.declared.agent.Agent.{Agent}
use Rattle.tile.specs.declared.agent.Agent.TheVariants.{Processor, Router, Bank}
use Rattle.tile.specs.Tile.{Design, TileState}
use Rattle.tile.specs.Agents.{TilePlace, agent_op, agent_absorbed, tile_next_op, tile_absorbed}
use Rattle.tile.specs.Beginning.{new_tile}

-- a tile in its place, and for how many entries its bank has room (this project's own format)
pub record PlacedTile : Type 0 where
  pub place : TilePlace
  pub room : ℕ

-- a tile in another place, with room for as many entries
abbrev pub with_place : PlacedTile → TilePlace → PlacedTile
with_place v p = record { place = p; room = v.room }

-- a tile with room for another number of entries in its bank, in its place as it was
abbrev pub with_room : PlacedTile → ℕ → PlacedTile
with_room v room = record { place = v.place; room = room }

-- a tile with its processor in another state, at the ports that it had
abbrev pub with_processor : PlacedTile → ProcessorState → PlacedTile
with_processor v state = record {
  place = record {
    design = v.place.design;
    tile = v.place.tile;
    processor = record { state = state; ports = v.place.processor.ports };
    router = v.place.router;
    bank = v.place.bank;
  };
  room = v.room;
}

-- the agents' states before any step, with so many tags and this script (this project's own format)
abbrev pub first_state : ℕ → ℕ → List Line → TileState
first_state dims tags lines =
    record {
      processor = first_processor tags lines;
      router = empty_router (port_count dims);
      bank = empty_bank;
    }

-- a tile before any step, over empty channels (this project's own format)
abbrev pub first_tile : Design → ℕ → ℕ → List Line → ℕ → PlacedTile
first_tile d t tags lines room =
    record { place = new_tile d t (first_state (dims_of d.shape) tags lines); room = room }

-- what an agent asks of the word that its choice finds (this project's own format)
abbrev pub IsAcceptableTo : TilePlace → Agent → Choice → ℕ → Type 0
IsAcceptableTo p Processor choice found = IsAcceptableToProcessor p.processor.state choice found
IsAcceptableTo p Router choice found = IsRoutable p.design.shape choice found
IsAcceptableTo p Bank choice found = IsAcceptableToBank choice found

-- a service of the bank has room for its entry (this project's own limits)
abbrev pub HasRoomForEntry : PlacedTile → Agent → Choice → Type 0
HasRoomForEntry v Bank choice.Serve = length v.place.bank.state.entries < v.room
HasRoomForEntry v _ _ = Unit {0}

-- the tile after an attempt of one of its agents over a row, at once; None where it has no
-- operation or doesn't move (this project's own format)
abbrev pub agent_attempted : TilePlace → Agent → Choice → List ℕ → Option TilePlace
agent_attempted p agent choice row =
    option_and_then (λ o. agent_absorbed p agent choice (slice_index row (word_of o)))
    (agent_op p agent choice)

-- the tile after an attempt; None also where it is of another tile (this project's own format)
abbrev pub tile_attempted : TilePlace → Step → List ℕ → Option TilePlace
tile_attempted p attempt row =
    option_and_then (λ o. tile_absorbed p attempt (slice_index row (word_of o)))
    (tile_next_op p attempt)
