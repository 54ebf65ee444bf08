-- The tiles that a machine begins with.
use Rattle.std.specs.Prelude.{ℕ, ◌+◌, List, [], ◌∷◌}
use Rattle.script_lines.specs.declared.line.Line.{Line}
use Rattle.tile.specs.Tile.{Design}
use Rattle.machine_parts.specs.Placed.{PlacedTile, first_tile}

-- the tiles from tile t on, before any step: one for each script, each bank with its room (this
-- project's own format)
abbrev pub tiles_from : Design → ℕ → ℕ → (ℕ → ℕ) → List (List Line) → List PlacedTile
tiles_from d t tags room [] = []
tiles_from d t tags room (lines ∷ scripts) =
    first_tile d t tags lines (room t) ∷ tiles_from d (t + 1) tags room scripts

abbrev pub first_tiles : Design → ℕ → (ℕ → ℕ) → List (List Line) → List PlacedTile
first_tiles d tags room scripts = tiles_from d 0 tags room scripts
