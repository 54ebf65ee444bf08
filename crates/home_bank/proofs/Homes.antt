-- Where the words of a bank are at home.
use Rattle.std.proofs.Common.{◌≡◌, ◌<◌, ◌+◌, ◌*◌, ◌/◌, ◌%◌, ℕ, arith}
use Rattle.std.proofs.lemmas.Nat.{mod-mul-add, div-mul-add}
use Rattle.home_bank.specs.ServiceList.{address_of}

-- the bank of an address, and its word there
pub home_tile : (tile tiles w : ℕ) → tile < tiles → address_of tile tiles w % tiles ≡ tile
home_tile tile tiles w below =
    let turned : tile + w * tiles ≡ w * tiles + tile = omega arith in
    rw turned (mod-mul-add w tiles tile below)

pub home_word : (tile tiles w : ℕ) → tile < tiles → address_of tile tiles w / tiles ≡ w
home_word tile tiles w below =
    let turned : tile + w * tiles ≡ w * tiles + tile = omega arith in
    rw turned (div-mul-add w tiles tile below)
