-- How many flits the steps of a run take from a channel.
use Rattle.std.specs.Prelude.{ℕ, ◌+◌, is_some, if◌then◌else◌, List, [], ◌∷◌, Option, Some, None, slice_get}
use Rattle.torus.specs.declared.step.Step.{Step}
use Rattle.flit_buffer.specs.Surroundings.{Surroundings, Wiring, granted, taken_from}
use Rattle.flit_buffer.specs.declared.want.Want.{Want}
use Rattle.core_laws.specs.Tile.{Design, TileState}
use Rattle.core_laws.specs.Agents.{wiring_of, tile_wants, agent_kind, agent_tile}
use Rattle.core_laws.specs.Core.{State, Load, design_of, first_state, next}

-- how many flits a choice takes from channel x, by what it wants: one where that is the channel's
-- next flit and there is one, else none (Dally and Towles, chapter 13)
abbrev pub want_takes : Surroundings → Wiring → ℕ → Option Want → ℕ
want_takes around wiring x None = 0
want_takes around wiring x (Some want) = if is_some (granted around wiring want) then taken_from wiring want x else 0

-- how many an attempt takes, by its tile
abbrev pub tile_takes : Design → Surroundings → Step → ℕ → Option TileState → ℕ
tile_takes d around attempt x None = 0
tile_takes d around attempt x (Some tile) =
    want_takes around (wiring_of d.shape (agent_tile attempt.agent) (agent_kind attempt.agent)) x
    (tile_wants d (agent_tile attempt.agent) tile (agent_kind attempt.agent) attempt.choice)

-- how many flits an attempt takes from channel x (Dally and Towles, chapter 13)
abbrev pub step_takes : Design → State → Step → ℕ → ℕ
step_takes d s attempt x =
    tile_takes d s.around attempt x (slice_get s.tiles (agent_tile attempt.agent))

-- how many a list of attempts takes, one after the other
abbrev pub row_takes : Design → State → List Step → ℕ → ℕ
row_takes d s [] x = 0
row_takes d s (attempt ∷ attempts) x =
    step_takes d s attempt x + row_takes d (next d s attempt) attempts x

-- how many flits are words_taken from channel x by a list of attempts from a load
abbrev pub words_taken : Load → List Step → ℕ → ℕ
words_taken l attempts x = row_takes (design_of l) (first_state l) attempts x
