-- A machine that is handed a line has the channels and the routers that it had.
use Rattle.std.proofs.Common.{◌≡◌, ℕ, zero, suc, Bool, true, false, List, [], ◌∷◌, map, refl, ◌∙◌, ap, if◌then◌else◌}
use Rattle.script_lines.specs.declared.line.Line.{Line}
use Rattle.router.specs.Table.{RouterState}
use Rattle.tile.specs.Tile.{Design, TileState}
use Rattle.machine_parts.specs.Machine.{Core}
use Rattle.machine_parts.specs.Appended.{changed_at, tile_with, appended}
use Rattle.machine_parts.specs.Reopened.{tile_open, reopened}
use Rattle.machine_parts.specs.Handed.{handed, has_reported}
use Rattle.machine_parts.specs.Routers.{PortFlags, OtherPortsSleep}
use Rattle.machine_parts.proofs.PortsAlike.{alike}

abbrev routers : List TileState → List RouterState
routers tiles = map (λ (tile : TileState). tile.router) tiles

given : (line : Line) (tiles : List TileState) (p : ℕ) → routers (changed_at (tile_with line) tiles p) ≡ routers tiles
given line [] p = refl
given line (tile ∷ tiles) zero = refl
given line (tile ∷ tiles) (suc p) = ap (λ (rs : List RouterState). tile.router ∷ rs) (given line tiles p)

opened : (tiles : List TileState) → routers (map tile_open tiles) ≡ routers tiles
opened [] = refl
opened (tile ∷ tiles) = ap (λ (rs : List RouterState). tile.router ∷ rs) (opened tiles)

module _ (c : Core) (p : ℕ) (line : Line) where
  abbrev with : Bool → Core
  with b = appended (if b then reopened c else c) p line

  same_rings : (b : Bool) → (with b).state.around.rings ≡ c.state.around.rings
  same_rings true = refl
  same_rings false = refl

  same_routers : (b : Bool) → routers (with b).state.tiles ≡ routers c.state.tiles
  same_routers true = given line (map tile_open c.state.tiles) p ∙ opened c.state.tiles
  same_routers false = given line c.state.tiles p

  pub ports_handed : (d : Design) (f : PortFlags) → OtherPortsSleep d c.state f → OtherPortsSleep d (handed c p line).state f
  ports_handed d f sleep =
      alike d c.state (handed c p line).state (same_rings (has_reported c.state p)) (same_routers (has_reported c.state p)) f sleep
