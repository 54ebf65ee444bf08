-- The row and the tiles before any step.
use Rattle.std.proofs.Common.{◌≡◌, ℕ, ◌*◌, ◌<◌, List, [], ◌∷◌, ◌++◌, replicate, Some, sym, ap, ◌∙◌, subst, slice_get}
use Rattle.std.specs.Prelude.{option_map}
use Rattle.std.proofs.lemmas.Option.{slice_get_within, slice_get-map}
use Rattle.torus.specs.Shape.{tiles_of, dims_of}
use Rattle.script_lines.specs.declared.line.Line.{Line}
use Rattle.channel_number.specs.Order.{channel_count}
use Rattle.flit_buffer.proofs.Starts.{are_rings, starts}
use Rattle.core_laws.specs.Tile.{TileState}
use Rattle.core_laws.specs.Agents.{TilePlace, tile_placed}
use Rattle.core_laws.specs.Beginning.{new_tile}
use Rattle.core_laws.proofs.NewTiles.{new_is}
use Rattle.core_laws.specs.Core.{Load, design_of, first_state, first_tile}
use Rattle.core_laws.specs.Runs.{IsAcceptedLoad}
use Rattle.core_laws.specs.Row.{row_of}
use Rattle.core_laws.specs.Attempts.{tile_in}
use Rattle.core_laws.proofs.RowRows.{only_row}

pub first_row : (l : Load) → IsAcceptedLoad l → row_of (design_of l) (first_state l) ≡ replicate (channel_count l.shape * l.depth) 0 ++ (l.opening ++ 0 ∷ [])
first_row l ok =
    sym (only_row l.depth (first_state l).around (are_rings l.depth (channel_count l.shape) (l.opening ++ 0 ∷ []) ok.depth.0)
    (replicate (channel_count l.shape * l.depth) 0 ++ (l.opening ++ 0 ∷ [])) (starts l.depth (channel_count l.shape) (l.opening ++ 0 ∷ []) ok.depth.0))

pub first_tiles : (l : Load) → IsAcceptedLoad l → (t : ℕ) (lines : List Line) → slice_get l.scripts t ≡ Some lines
    → tile_in (design_of l) (first_state l) t ≡ Some (new_tile (design_of l) t (first_tile (dims_of l.shape) l.tags lines))
first_tiles l ok t lines e =
    let t_in : t < tiles_of l.shape = subst (λ (k : ℕ). t < k) ok.processors (slice_get_within l.scripts t lines e) in
    let made : slice_get (first_state l).tiles t ≡ Some (first_tile (dims_of l.shape) l.tags lines) =
    slice_get-map (first_tile (dims_of l.shape) l.tags) l.scripts t ∙ ap (λ o. option_map (first_tile (dims_of l.shape) l.tags) o) e in
    ap (λ o. option_map (λ (tile : TileState). tile_placed (design_of l) t tile (first_state l).around) o) made
    ∙ ap (λ (p : TilePlace). Some p) (sym (new_is (design_of l) t (first_tile (dims_of l.shape) l.tags lines) (l.opening ++ 0 ∷ []) ok.shape t_in ok.depth.0))
