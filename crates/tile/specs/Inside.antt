-- What the fields of a tile's agents stand for, and what is true of them.
use Rattle.std.specs.Prelude.{◌≡◌}
use Rattle.torus.specs.Shape.{tiles_of}
use Rattle.tile.specs.declared.agents.TileAgents.TheInside.{Inside}
use Rattle.tile.specs.Placed.{PlacedTile}

abbrev pub placed_of : {A : Type 0} → Inside A → PlacedTile
placed_of a = record {
  place = record {
    design = record { shape = a.router.torus; depth = a.depth; words = a.processor.words };
    tile = a.tile;
    processor = a.processor.agent;
    router = a.router.agent;
    bank = a.bank.agent;
  };
  room = a.bank.room;
}

-- the agents are of one tile, among as many tiles as the torus has
pub record AreOfOneTile {A : Type 0} (a : Inside A) : Type 0 where
  pub processor : a.processor.tile ≡ a.tile
  pub router : a.router.tile ≡ a.tile
  pub bank : a.bank.tile ≡ a.tile
  pub tiles : a.processor.tiles ≡ tiles_of a.router.torus
  pub banks : a.bank.tiles ≡ tiles_of a.router.torus
