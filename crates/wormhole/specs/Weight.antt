-- The moves that a network still owes.
use Rattle.std.specs.Prelude.{ℕ, ◌+◌, ◌*◌, ◌==◌, if◌then◌else◌, zero, suc, List, [], ◌∷◌, length, sum_by}
use Rattle.wormhole.specs.Net.{Net, Parcel, net_flits}
use Rattle.wormhole.specs.State.{NetLine, Note, NetState}
use Rattle.wormhole.specs.Events.{NetEvent, InjectHead}

-- the sum of f over the numbers below n
abbrev pub sum_below : ℕ → (ℕ → ℕ) → ℕ
sum_below zero f = 0
sum_below (suc n) f = sum_below n f + f n

-- how many channels of a route lie after channel x
abbrev pub beyond : ℕ → List ℕ → ℕ
beyond x [] = 0
beyond x (y ∷ ys) = if y == x then length ys else beyond x ys

-- how often flits of a packet whose head is in channel x will be put into the channels after it:
-- each flit into each
abbrev pub weight_onward : Net → ℕ → Parcel → ℕ
weight_onward n x k = length (net_flits k) * beyond x (n.route k.source k.destination)

-- the moves that are owed for a channel: put, take and credit of each flit that is owed to it, take
-- and credit of each
-- flit in it, each returning credit, and all three for each flit of its packets in each channel
-- after it (this project's
-- own format; credits: Dally and Towles, chapter 13)
abbrev pub weight_at : Net → ℕ → NetLine → Note → ℕ
weight_at n x l k = 3 * length k.owed + 2 * length l.flits + l.returning + 3 * sum_by (weight_onward n x) k.parcels

-- the moves that the network owes
abbrev pub weight : Net → NetState → ℕ
weight n s = sum_below n.channels (λ x. weight_at n x (s.lines x) (s.notes x))

-- the moves that an event adds to what is owed, itself counted: put, take and credit of each flit
-- of a new packet in
-- each channel of its route; every other event adds none
abbrev pub promised : Net → NetEvent → ℕ
promised n (InjectHead x k) = 3 * (length (net_flits k) * length (n.route k.source k.destination))
promised n e = 0
