-- What the done word counts.
use Rattle.std.specs.Prelude.{◌≡◌, ℕ, true, Some, slice_get, slice_index, count_by}
use Rattle.one_order.specs.Following.{is_finished}
use Rattle.tile.specs.Tile.{Design, TileState}
use Rattle.core_laws.specs.Core.{State}

-- the done word counts the processors that have reported; only processors whose script is finished
-- have; and who has seen the end saw that all have (this project's own format)
pub record CountsReports (d : Design) (s : State) : Type 0 where
  pub counts : slice_index s.around.words d.words ≡ count_by (λ t. t.processor.reported) s.tiles
  pub finished : (t : ℕ) (tile : TileState) → slice_get s.tiles t ≡ Some tile
      → tile.processor.reported ≡ true → is_finished tile.processor.operations.following ≡ true
  pub seen : (t : ℕ) (tile : TileState) → slice_get s.tiles t ≡ Some tile
      → tile.processor.seen ≡ true
      → (u : ℕ) (other : TileState) → slice_get s.tiles u ≡ Some other
      → other.processor.reported ≡ true
