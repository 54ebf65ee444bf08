-- An attempt as an operation on one word of the row.
use Rattle.std.specs.Prelude.{◌≡◌, ℕ, ◌<◌, length, slice_index, slice_get, Option, Some, None, option_map}
use Rattle.std.specs.Prelude.{option_and_then, MatchOption}
use Rattle.torus.specs.declared.step.Step.{Step}
use Rattle.flit_buffer.specs.Words.{word_of, performed}
use Rattle.flit_buffer.specs.declared.word_op.WordOp.{WordOp}
use Rattle.core_laws.specs.Tile.{Design}
use Rattle.core_laws.specs.Agents.{TilePlace, tile_placed, tile_next_op, tile_absorbed, agent_tile}
use Rattle.core_laws.specs.Core.{State, step}
use Rattle.core_laws.specs.Row.{row_of}

-- a tile of a state in its place; None where there is no such tile
abbrev pub tile_in : Design → State → ℕ → Option TilePlace
tile_in d s t = option_map (λ tile. tile_placed d t tile s.around) (slice_get s.tiles t)

module _ (d : Design) (s : State) (attempt : Step) where
  -- the word operation of an attempt; None where its agent hasn't the choice, or the agent's own
  -- condition fails (this project's own format)
  abbrev pub step_op : Option WordOp
  step_op = option_and_then (λ p. tile_next_op p attempt) (tile_in d s (agent_tile attempt.agent))

  -- the attempt's tile after its operation found a word; None where it doesn't move (this project's
  -- own format)
  abbrev pub step_absorbed : ℕ → Option TilePlace
  step_absorbed found = option_and_then (λ p. tile_absorbed p attempt found)
      (tile_in d s (agent_tile attempt.agent))

  -- the word that an operation finds in the row of the state
  abbrev pub found_by : WordOp → ℕ
  found_by op = slice_index (row_of d s) (word_of op)

  -- the attempt is idle: by the word found the tile doesn't move, and the row stays (this project's
  -- own format)
  pub record LeavesRow (op : WordOp) : Type 0 where
    pub idle : step_absorbed (found_by op) ≡ None
    pub row : performed op (row_of d s) ≡ row_of d s

  -- the attempt moves: by the word found the tile becomes that of the next state, and the row that
  -- of the next state (this project's own format)
  pub record MovesRow (op : WordOp) (next : State) : Type 0 where
    pub tile : TilePlace
    pub moved : step_absorbed (found_by op) ≡ Some tile
    pub next_tile : tile_in d next (agent_tile attempt.agent) ≡ Some tile
    pub row : performed op (row_of d s) ≡ row_of d next

  -- an attempt without an operation isn't enabled; the operation of any other is on a word of the
  -- row, and the attempt moves by the word found exactly where it is enabled (Lynch and Vaandrager,
  -- 1995: forward simulation)
  abbrev pub IsWordOperation : Type 0
  IsWordOperation =
      MatchOption step_op (step d s attempt ≡ None)
      (λ op. (word_of op < length (row_of d s))
      × MatchOption (step d s attempt) (LeavesRow op) (λ next. MovesRow op next))
