use Rattle.torus.proofs.Hops.{tile_by_digits, digits_range, tile_from_digits}
use Rattle.torus.proofs.laws.digits_name_tiles.Goals as goal

pub returns : goal.returns
returns c = record { unique = tile_by_digits; in_range = digits_range; every = tile_from_digits }
