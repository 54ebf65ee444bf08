use Rattle.std.proofs.Common.{◌≡◌, ◌%◌, ◌/◌}
use Rattle.torus.specs.Shape.{tiles_of}
use Rattle.home_bank.proofs.Homes.{home_tile, home_word}
use Rattle.home_bank.specs.ServiceList.{address_of}
use Rattle.home_bank.proofs.laws.words_are_at_home.Goals as goal

pub returns : goal.returns
returns c s tile w below =
    let there : address_of tile (tiles_of s) w % tiles_of s ≡ tile = home_tile tile (tiles_of s) w below in
    let word : address_of tile (tiles_of s) w / tiles_of s ≡ w = home_word tile (tiles_of s) w below in
    cc
