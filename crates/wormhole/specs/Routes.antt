-- What holds of the packets: they are on their routes, and none overtakes another between the same
-- two ends.
use Rattle.std.specs.Prelude.{◌≡◌, ℕ, ◌<◌, ◌==◌, ◌&&◌, true, List, [], ◌∷◌, ◌++◌, Some, All, filter}
use Rattle.wormhole.specs.Net.{Net, Parcel, IsParcel, IsOn}
use Rattle.wormhole.specs.State.{NetState}

-- those of some packets that go from an injection channel to an ejection channel
abbrev pub between : ℕ → ℕ → List Parcel → List Parcel
between i j ks = filter (λ k. k.source == i && k.destination == j) ks

-- the packets of two ends that are in the channels of a list: those of its last channel first
abbrev pub on_the_way : ℕ → ℕ → (ℕ → List Parcel) → List ℕ → List Parcel
on_the_way i j parcels [] = []
on_the_way i j parcels (x ∷ xs) = on_the_way i j parcels xs ++ between i j (parcels x)

-- the packets of two ends: those begun at the receiver, then those on the way, are those sent, in
-- that order
abbrev pub IsFlow : Net → NetState → ℕ → ℕ → Type 0
IsFlow n s i j =
    between i j (s.notes j).begun ++ on_the_way i j (λ x. (s.notes x).parcels) (n.route i j)
    ≡ between i j (s.notes i).sent

-- a packet whose head flit its sender put into this injection channel
pub record IsSentHere (n : Net) (x : ℕ) (k : Parcel) : Type 0 where
  pub parcel : IsParcel n k
  pub source : k.source ≡ x

-- a packet whose head flit its receiver took from this ejection channel
pub record IsBegunHere (n : Net) (x : ℕ) (k : Parcel) : Type 0 where
  pub parcel : IsParcel n k
  pub destination : k.destination ≡ x

-- packets are on their routes and in order, and from owner to owned the numbers rise (Dally and
-- Towles, chapter 14)
pub record Routes (n : Net) (s : NetState) : Type 0 where
  pub on_route : (x : ℕ) → All (λ k. IsOn x (n.route k.source k.destination)) (s.notes x).parcels
  pub rising : (x y : ℕ) → (s.lines y).owner ≡ Some x → n.number x < n.number y
  pub sent : (x : ℕ) → All (IsSentHere n x) (s.notes x).sent
  pub begun : (x : ℕ) → All (IsBegunHere n x) (s.notes x).begun
  pub flow : (i j : ℕ) → n.joins i j ≡ true → IsFlow n s i j
