-- The moves that a machine owes: those of its processors, of its banks and of its network.
use Rattle.std.specs.Prelude.{◌≡◌, ◌≢◌, ◌⊎◌, ℕ, ◌+◌, ◌*◌, ◌<◌, ◌≤◌, length, Option, Some, None}
use Rattle.wormhole.specs.Net.{Net, Parcel, net_flits}
use Rattle.wormhole.specs.State.{NetState}
use Rattle.wormhole.specs.Events.{NetEvent, InjectHead, CanHappen, network_after}
use Rattle.wormhole.specs.Weight.{sum_below, weight}

-- what the ends of a tile have still to do: operations that the processor's script still allows,
-- the steps until it has
-- reported and seen that all have, services that its bank may still make, and flits of a reply that
-- isn't begun
pub record End : Type 0 where
  pub left : ℕ
  pub reports : ℕ
  pub room : ℕ
  pub unsent : ℕ

-- the moves of these: a request has at most 5 flits and a reply 3, on routes of at most 10
-- channels, with put, take and
-- credit of each flit in each channel; and each operation has one service
abbrev pub end_weight : End → ℕ
end_weight e = 150 * e.left + e.reports + 91 * e.room + 30 * e.unsent

-- the moves that the machine owes
abbrev pub work : Net → ℕ → (ℕ → End) → NetState → ℕ
work n tiles ends s = sum_below tiles (λ t. end_weight (ends t)) + weight n s

-- a processor issues one or more of its operations, the others of a spin that is cut short among
-- them
pub record Issues (n : Net) (k : Parcel) (old new : End) : Type 0 where
  pub left : new.left < old.left
  pub reports : new.reports ≡ old.reports
  pub room : new.room ≡ old.room
  pub unsent : new.unsent ≡ old.unsent
  pub short : length (net_flits k) ≤ 5
  pub near : length (n.route k.source k.destination) ≤ 10

-- a bank begins to put its reply
pub record Replies (n : Net) (k : Parcel) (old new : End) : Type 0 where
  pub left : new.left ≡ old.left
  pub reports : new.reports ≡ old.reports
  pub room : new.room ≡ old.room
  pub before : old.unsent ≡ length (net_flits k)
  pub unsent : new.unsent ≡ 0
  pub near : length (n.route k.source k.destination) ≤ 10

-- a bank serves a request, and has a reply of at most 3 flits
pub record Serves (old new : End) : Type 0 where
  pub left : new.left ≡ old.left
  pub reports : new.reports ≡ old.reports
  pub room : new.room < old.room
  pub unsent : new.unsent ≤ 3

-- a processor reports that its script is finished, or sees that all are
pub record NetReports (old new : End) : Type 0 where
  pub left : new.left ≡ old.left
  pub reports : new.reports < old.reports
  pub room : new.room ≡ old.room
  pub unsent : new.unsent ≡ old.unsent

-- any other step; a reply that becomes whole may end a spin
pub record NetStays (old new : End) : Type 0 where
  pub left : new.left ≤ old.left
  pub reports : new.reports ≡ old.reports
  pub room : new.room ≡ old.room
  pub unsent : new.unsent ≡ old.unsent

-- what becomes of the ends of the tile whose agent makes a step, by what the network does: an
-- event, or nothing
abbrev pub IsChange : Net → Option NetEvent → End → End → Type 0
IsChange n (Some (InjectHead x k)) old new = Issues n k old new ⊎ Replies n k old new
IsChange n (Some e) old new = NetStays old new
IsChange n None old new = Serves old new ⊎ NetReports old new

-- what the network does may happen
abbrev pub EventMayHappen : Net → NetState → Option NetEvent → Type 0
EventMayHappen n s None = Unit {0}
EventMayHappen n s (Some e) = CanHappen n s.lines e

-- an enabled step of one tile's agents, with what the network does
pub record IsStep (n : Net) (tiles : ℕ) (ends : ℕ → End) (s : NetState) (new : ℕ → End)
    (t : NetState) : Type 0 where
  pub tile : ℕ
  pub here : tile < tiles
  pub event : Option NetEvent
  pub may : EventMayHappen n s event
  pub change : IsChange n event (ends tile) (new tile)
  pub others : (z : ℕ) → z < tiles → z ≢ tile → new z ≡ ends z
  pub network : t ≡ network_after n s event

-- the ends of a tile before any step: its operations, a report and a look, and room for the
-- operations on its words
abbrev pub first_end : ℕ → ℕ → End
first_end ops room = record { left = ops; reports = 2; room = room; unsent = 0 }
