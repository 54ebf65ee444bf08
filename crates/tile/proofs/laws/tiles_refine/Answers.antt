use Rattle.tile.proofs.Tiles.{tile_refines, tile_keeps}
use Rattle.tile.proofs.laws.tiles_refine.Goals as goal

pub returns : goal.returns
returns c = record {
  refines = λ d t tile around row agent choice ok t_in surrounded possible shows. tile_refines d t tile around choice ok t_in surrounded agent possible row
      shows;
  others = λ d t tile around agent choice next left ok t_in surrounded possible e. tile_keeps d t tile around choice ok t_in surrounded agent possible next left
      e;
}
