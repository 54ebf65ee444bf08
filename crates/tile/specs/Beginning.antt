-- A tile in the beginning.
use Rattle.std.specs.Prelude.{ℕ}
use Rattle.router.specs.Beginning.{router_ports}
use Rattle.home_bank.specs.Beginning.{bank_ports}
use Rattle.net_interface.specs.Beginning.{processor_ports}
use Rattle.tile.specs.Tile.{Design, TileState}
use Rattle.tile.specs.Agents.{TilePlace}

-- a tile whose agents have these states and new ports (this project's own format)
abbrev pub new_tile : Design → ℕ → TileState → TilePlace
new_tile d t tile = record {
  design = d;
  tile = t;
  processor = record { state = tile.processor; ports = processor_ports d.shape t d.depth };
  router = record { state = tile.router; ports = router_ports d.shape t d.depth };
  bank = record { state = tile.bank; ports = bank_ports d.shape t d.depth };
}
