-- Packets come whole, once and where they go, in whatever order.
use Rattle.std.specs.Prelude.{◌≡◌, ◌≢◌, ℕ, List, [], ◌∷◌, ◌++◌, All, sum_by}
use Rattle.wormhole.specs.Net.{Parcel, IsParcel, IsOn, net_flits}
use Rattle.wormhole.specs.State.{NetState}
use Rattle.wormhole.specs.Routes.{IsSentHere}
use Rattle.wormhole.specs.Delivery.{whole, WasSentTo}
use Rattle.wormhole.specs.Weight.{sum_below}
use Rattle.network_adaptive.specs.Choices.{AdaptiveNet}

-- the sum of f over the packets that are noted of all channels: where f is 1 for one packet and 0
-- for every other one, how often this packet is there
abbrev pub sum_of_packets : AdaptiveNet → (Parcel → ℕ) → (ℕ → List Parcel) → ℕ
sum_of_packets n f packets = sum_below n.frame.channels (λ x. sum_by f (packets x))

-- packets under way and at receivers were sent, and all that were sent are there, each as often
pub record AreSent (n : AdaptiveNet) (s : NetState) : Type 0 where
  pub sent : (x : ℕ) → All (IsSentHere n.frame x) (s.notes x).sent
  pub under_way : (x : ℕ) → All (λ k. IsOn k (s.notes k.source).sent) (s.notes x).parcels
  pub begun : (x : ℕ) → All (WasSentTo n.frame s x) (s.notes x).begun
  pub all : (f : Parcel → ℕ)
      → sum_of_packets n f (λ x. (s.notes x).begun ++ (s.notes x).parcels)
      ≡ sum_of_packets n f (λ x. (s.notes x).sent)

-- with a flit one packet becomes whole, at its receiver
pub record BecomesWhole (n : AdaptiveNet) (s t : NetState) (x flit : ℕ) : Type 0 where
  pub packet : Parcel
  pub parcel : IsParcel n.frame packet
  pub destination : packet.destination ≡ x
  pub sent : IsOn packet (s.notes packet.source).sent
  pub flits : net_flits packet ≡ (s.lines x).so_far ++ flit ∷ []
  pub more : whole t x ≡ whole s x ++ packet ∷ []
  pub others : (z : ℕ) → z ≢ x → whole t z ≡ whole s z
