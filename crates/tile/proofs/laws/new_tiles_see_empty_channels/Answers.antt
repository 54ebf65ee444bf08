use Rattle.tile.proofs.NewTiles.{new_is}
use Rattle.tile.proofs.laws.new_tiles_see_empty_channels.Goals as goal

pub returns : goal.returns
returns c = new_is
