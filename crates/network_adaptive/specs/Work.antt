-- The moves that a network still owes, where each choice brings a packet nearer.
use Rattle.std.specs.Prelude.{ℕ, ◌+◌, ◌*◌, ◌<◌, length, sum_by}
use Rattle.wormhole.specs.Net.{Parcel, net_flits}
use Rattle.wormhole.specs.State.{NetLine, Note, NetState}
use Rattle.wormhole.specs.Events.{NetEvent, InjectHead}
use Rattle.wormhole.specs.Weight.{sum_below}
use Rattle.network_adaptive.specs.Choices.{AdaptiveNet, Comes, IsChoice}

-- each choice brings packets nearer to their ejection channel (Duato 1993: minimal routing), or the
-- choices for each destination are acyclic
abbrev pub AreNearer : AdaptiveNet → (ℕ → ℕ → ℕ) → Type 0
AreNearer n far = (j x y : ℕ) → Comes n j x → IsChoice n j x y → far y j < far x j

-- how often flits of a packet whose head is in channel x will be put into further channels, at
-- most: each flit into each
abbrev pub adaptive_onward : (ℕ → ℕ → ℕ) → ℕ → Parcel → ℕ
adaptive_onward far x k = length (net_flits k) * far x k.destination

-- the moves that are owed for a channel: put, take and credit of each flit that is owed to it,
-- take and credit of each flit in it, each returning credit, and all three for each flit of its
-- packets in each further channel
abbrev pub adaptive_weight_at : (ℕ → ℕ → ℕ) → ℕ → NetLine → Note → ℕ
adaptive_weight_at far x l k =
    3 * length k.owed + 2 * length l.flits + l.returning
    + 3 * sum_by (adaptive_onward far x) k.parcels

-- the moves that the network owes
abbrev pub adaptive_weight : AdaptiveNet → (ℕ → ℕ → ℕ) → NetState → ℕ
adaptive_weight n far s =
    sum_below n.frame.channels (λ x. adaptive_weight_at far x (s.lines x) (s.notes x))

-- the moves that an event adds to what is owed, itself counted: put, take and credit of each flit
-- of a new packet in its first channel and in each further one; every other event adds none
abbrev pub adaptive_promised : (ℕ → ℕ → ℕ) → NetEvent → ℕ
adaptive_promised far (InjectHead x k) = 3 * (length (net_flits k) * (far x k.destination + 1))
adaptive_promised far e = 0
