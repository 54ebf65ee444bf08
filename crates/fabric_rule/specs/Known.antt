-- What is known of a run: a tile in its place after it, which attempts it enables, and which row
-- shows it.
use Rattle.std.specs.Prelude.{◌≡◌, ℕ, ◌+◌, ◌*◌, Bool, List, length, Option, is_some, unwrap_or, slice_index}
use Rattle.torus.specs.Shape.{tiles_of}
use Rattle.torus.specs.declared.step.Step.{Step}
use Rattle.channel_number.specs.Order.{channel_count}
use Rattle.one_order.specs.Room.{home_room}
use Rattle.flit_buffer.specs.declared.word_op.WordOp.{WordOp}
use Rattle.tile.specs.Agents.{TilePlace, tile_next_op, tile_absorbed, agent_kind, agent_tile}
use Rattle.tile.specs.Placed.{IsAcceptableTo, HasRoomForEntry}
use Rattle.core_laws.specs.Core.{Load, design_of, after, step}
use Rattle.core_laws.specs.Row.{row_of}
use Rattle.core_laws.specs.Attempts.{tile_in}

-- the tile of an attempt
abbrev pub tile_of : Step → ℕ
tile_of attempt = agent_tile attempt.agent

-- a tile in its place after a run; None where there is no such tile
unfoldable pub known : Load → List Step → ℕ → Option TilePlace
known load run t = tile_in (design_of load) (after load run) t

-- whether an attempt is enabled after a run
unfoldable pub enabled : Load → List Step → Step → Bool
enabled load run attempt = is_some (step (design_of load) (after load run) attempt)

-- the row of words is that of the state after a run
unfoldable pub ShowsBeginning : Load → List ℕ → List Step → Type 0
ShowsBeginning load row run = row ≡ row_of (design_of load) (after load run)

-- the word of the memory, or behind it the done word, that stands after a run
unfoldable pub word_after : Load → List Step → ℕ → ℕ
word_after load run a = slice_index (after load run).around.words a

-- the number of words in the row: the places of the channels, the words of the memory, and the done
-- word (this project's own format)
abbrev pub row_length : Load → ℕ
row_length load = channel_count load.shape * load.depth + (length load.opening + 1)

-- the word operation by which an attempt is tried at its tile; None where it has none
unfoldable pub op_of : TilePlace → Step → Option WordOp
op_of p attempt = tile_next_op p attempt

-- whether the tile moves by the word found
unfoldable pub moves : TilePlace → Step → ℕ → Bool
moves p attempt found = is_some (tile_absorbed p attempt found)

-- the tile after the word was found: the same where it doesn't move
unfoldable pub left_by : TilePlace → Step → ℕ → TilePlace
left_by p attempt found = unwrap_or (tile_absorbed p attempt found) p

-- the attempt may take the word found: its agent accepts it, and a service has room for its entry,
-- where the bank of the tile has as much room as the scripts have operations for it (this project's
-- own limits)
unfoldable pub Suits : Load → TilePlace → Step → ℕ → Type 0
Suits load p attempt found =
    IsAcceptableTo p (agent_kind attempt.agent) attempt.choice found
    × HasRoomForEntry (record {
      place = p;
      room = home_room (tiles_of load.shape) (tile_of attempt) load.scripts;
    })
    (agent_kind attempt.agent) attempt.choice
