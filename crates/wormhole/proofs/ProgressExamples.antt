-- Worked weights of a network and of the ends of a tile, against the definitions.
use Rattle.std.proofs.Common.{◌≡◌, ◌⊎◌, inl, inr, ℕ, zero, suc, ◌+◌, ◌<◌, ◌==◌, ◌||◌, true, [], ◌∷◌, refl, arith}
use Rattle.wormhole.specs.Net.{Net, Parcel}
use Rattle.wormhole.specs.State.{empty_line, empty_note}
use Rattle.wormhole.specs.Events.{InjectHead, Return}
use Rattle.wormhole.specs.Ends.{Tiles, AreTiles, IsOwed}
use Rattle.wormhole.specs.Weight.{weight_at, promised}
use Rattle.wormhole.specs.Work.{end_weight}

-- one tile: it asks on channel 0 and hears on 1, and its bank serves what comes on 2 and replies on 3
abbrev one_tile : Net
one_tile = record {
  channels = 4;
  depth = 3;
  injects = λ x. x == 0 || x == 3;
  ejects = λ x. x == 1 || x == 2;
  joins = λ i j. (i + 2) == j;
  route = λ i j. i ∷ 5 ∷ j ∷ [];
  next = λ x j. j;
  number = λ x. x;
  top = 4;
  is_head = λ flit. flit == 9;
  is_tail = λ flit. flit == 7;
  told = λ flit. 2;
}

abbrev packet : Parcel
packet = record { source = 0; destination = 2; index = 0; head = 9; tail = 4 ∷ 7 ∷ [] }

-- put, take and credit of three flits in three channels
promised_at_first : promised one_tile (InjectHead 0 packet) ≡ 27
promised_at_first = refl

-- a channel with one flit, two returning credits and one flit yet to come: 2, 2 and 3 moves
moves_of_a_channel : weight_at one_tile 0 (record (empty_line one_tile) { flits = 4 ∷ []; returning = 2 })
    (record empty_note { owed = 7 ∷ [] }) ≡ 7
moves_of_a_channel = refl

-- of an operation 150 moves for its request and 91 for its service and reply, and a report and a look
moves_of_a_tile : end_weight (record { left = 1; reports = 2; room = 1; unsent = 0 }) ≡ 243
moves_of_a_tile = refl

-- a credit that returns is owed
credit_is_owed : IsOwed (Return 0)
credit_is_owed = tt

-- the bank replies on a channel of a greater number than that of its requests
abbrev ends : Tiles
ends = record { count = 1; asks = λ t. 0; hears = λ t. 1; serves = λ t. 2; replies = λ t. 3 }

abbrev IsHeardOrServed : ℕ → Type 0
IsHeardOrServed x = ((p : ℕ) × (p < 1) × (x ≡ 1)) ⊎ ((b : ℕ) × (b < 1) × (x ≡ 2))

receiver : (x : ℕ) → x < 4 → one_tile.ejects x ≡ true → IsHeardOrServed x
receiver zero here is = absurd (cc)
receiver (suc zero) here is = inl (0, omega arith, refl)
receiver (suc (suc zero)) here is = inr (0, omega arith, refl)
receiver (suc (suc (suc zero))) here is = absurd (cc)
receiver (suc (suc (suc (suc x)))) here is = absurd (omega (arith, here))

are_tiles : AreTiles one_tile ends
are_tiles = record {
  receivers = receiver;
  asks_within = λ p here. omega arith;
  hears_within = λ p here. omega arith;
  serves_within = λ b here. omega arith;
  replies_within = λ b here. omega arith;
  above = λ b here. omega arith;
}
