-- A new tile's ports are those over empty channels.
use Rattle.std.proofs.Common.{◌≡◌, ℕ, ◌<◌, List}
use Rattle.torus.specs.Shape.{IsAccepted, tiles_of}
use Rattle.router.specs.Beginning.{empty_surroundings}
use Rattle.router.proofs.EmptyChannels.{ports_shown as router_shown}
use Rattle.home_bank.proofs.EmptyChannels.{ports_shown as bank_shown}
use Rattle.net_interface.proofs.EmptyChannels.{ports_shown as processor_shown}
use Rattle.tile.specs.Tile.{Design, TileState}
use Rattle.tile.specs.Agents.{tile_placed}
use Rattle.tile.specs.Beginning.{new_tile}

pub new_is : (d : Design) (t : ℕ) (tile : TileState) (words : List ℕ) → IsAccepted d.shape → t < tiles_of d.shape → 0 < d.depth
    → new_tile d t tile ≡ tile_placed d t tile (empty_surroundings d.shape d.depth words)
new_is d t tile words ok t_in some =
    let p = processor_shown d.shape t d.depth words t_in some in
    let r = router_shown d.shape ok t d.depth words t_in some in
    let b = bank_shown d.shape t d.depth words t_in some in
    λ i. record {
      design = d;
      tile = t;
      processor = record { state = tile.processor; ports = p i };
      router = record { state = tile.router; ports = r i };
      bank = record { state = tile.bank; ports = b i };
    }
