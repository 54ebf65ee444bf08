-- The choices of a text for packets to some ejection channels in a row, side by side.
use Rattle.std.specs.Prelude.{◌≡◌, ℕ, ◌+◌, ◌*◌, ◌<◌, ◌≤◌, true, List, [], ◌∷◌, slice_get}
use Rattle.network_judge.specs.Table.{columns_of, column_of, is_receiver}
use Rattle.network_text.specs.Network.{count_of}
use Rattle.network_text.specs.Lines.{first_lines}
use Rattle.network_text.specs.Choosing.{ChoosingText}
use Rattle.network_text.specs.ChoiceLists.{listed_choice}
use Rattle.network_text.specs.declared.tile.Tile.{Tile}

-- those behind channel x at a place, for the ejection channels of so many columns from one on
abbrev pub tile_line : ChoosingText → ℕ → ℕ → ℕ → ℕ → List ℕ
tile_line t from width x place =
    first_lines (λ k. listed_choice t (x * columns_of t.fixed.table + (from + k)) place ∷ []) width

-- all behind a channel, and all
abbrev pub tile_lines : ChoosingText → ℕ → ℕ → ℕ → List ℕ
tile_lines t from width x = first_lines (tile_line t from width x) (t.layers + 1)

abbrev pub tile_cells : ChoosingText → ℕ → ℕ → List ℕ
tile_cells t from width = first_lines (tile_lines t from width) (count_of t.fixed)

-- a tile has the choices of a text
pub record IsTile {A : Type 0} (t : ChoosingText) (tile : Tile A) : Type 0 where
  pub within : tile.from + tile.width ≤ columns_of t.fixed.table
  pub cells : tile.cells.items ≡ tile_cells t tile.from tile.width

-- and those to channel j, if it is an ejection channel
pub record IsTileFor {A : Type 0} (t : ChoosingText) (it : Tile A) (j : ℕ) : Type 0 where
  pub tile : IsTile t it
  pub begins : is_receiver (slice_get t.fixed.table.kinds j) ≡ true
      → it.from ≤ column_of t.fixed.table j
  pub ends : is_receiver (slice_get t.fixed.table.kinds j) ≡ true
      → column_of t.fixed.table j < it.from + it.width
