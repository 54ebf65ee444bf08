-- Delivery: packets arrive whole, once and in the order in which they were sent, and no flit is
-- refused.
use Rattle.std.specs.Prelude.{◌≡◌, ◌≢◌, ◌<◌, ℕ, Bool, true, false, List, [], ◌∷◌, ◌++◌, Some}
use Rattle.wormhole.specs.Net.{Net, Parcel, IsParcel, IsOn, net_flits, has_no_flit}
use Rattle.wormhole.specs.State.{NetState, empty}
use Rattle.wormhole.specs.Events.{NetEvent, AcceptHead, AcceptRest, after_all, CanAllHappen}
use Rattle.wormhole.specs.Routes.{between}

-- a list without its last item
abbrev pub without_last : {A : Type 0} → List A → List A
without_last [] = []
without_last (x ∷ []) = []
without_last (x ∷ y ∷ ys) = x ∷ without_last (y ∷ ys)

-- the whole ones of packets that were begun: all, or all but the last while flits of it are awaited
abbrev pub whole_of : List ℕ → List Parcel → List Parcel
whole_of [] ks = ks
whole_of (flit ∷ flits) ks = without_last ks

-- the packets that are whole at the receiver of an ejection channel, in the order in which they
-- became so
abbrev pub whole : NetState → ℕ → List Parcel
whole s x = whole_of (s.notes x).awaited (s.notes x).begun

-- a list is a beginning of another
abbrev pub IsPrefix : {A : Type 0} → List A → List A → Type 0
IsPrefix {A} xs ys = (rest : List A) × (ys ≡ xs ++ rest)

-- between two ends the whole packets are a beginning of the sent ones: none is doubled, mixed or
-- overtaken
abbrev pub IsDelivered : NetState → ℕ → ℕ → Type 0
IsDelivered s i j = IsPrefix (between i j (whole s j)) (between i j (s.notes i).sent)

-- a packet to an ejection channel that the sender of its injection channel has sent
pub record WasSentTo (n : Net) (s : NetState) (x : ℕ) (k : Parcel) : Type 0 where
  pub parcel : IsParcel n k
  pub destination : k.destination ≡ x
  pub sent : IsOn k (s.notes k.source).sent

-- a flit offered to a receiver goes on with a packet sent to it, and has the tail bit just if it is
-- the packet's last
pub record FlitIsTaken (n : Net) (s : NetState) (x flit : ℕ) : Type 0 where
  pub packet : Parcel
  pub rest : List ℕ
  pub parcel : IsParcel n packet
  pub destination : packet.destination ≡ x
  pub sent : IsOn packet (s.notes packet.source).sent
  pub flits : net_flits packet ≡ (s.lines x).so_far ++ flit ∷ rest
  pub tail : n.is_tail flit ≡ has_no_flit rest

-- a head flit behind a channel is of a packet that was sent: this channel and the router's choice
-- are on its route
pub record IsRouted (n : Net) (s : NetState) (x flit : ℕ) : Type 0 where
  pub packet : Parcel
  pub parcel : IsParcel n packet
  pub head : packet.head ≡ flit
  pub sent : IsOn packet (s.notes packet.source).sent
  pub here : IsOn x (n.route packet.source packet.destination)
  pub there : IsOn (n.next x (n.told flit)) (n.route packet.source packet.destination)
  pub rises : n.number x < n.number (n.next x (n.told flit))

-- the one output that an input owns
pub record HeadHasOutput (s : NetState) (x : ℕ) : Type 0 where
  pub output : ℕ
  pub owned : (s.lines output).owner ≡ Some x
  pub only : (y : ℕ) → (s.lines y).owner ≡ Some x → y ≡ output

-- the packets that are whole at each receiver stay as they are
abbrev pub StayWhole : Net → NetState → NetState → Type 0
StayWhole n s t = (x : ℕ) → n.ejects x ≡ true → whole t x ≡ whole s x

-- with a flit one packet becomes whole, at its receiver: the next of those that its sender sent
-- there
pub record Arrives (n : Net) (s t : NetState) (x flit : ℕ) : Type 0 where
  pub packet : Parcel
  pub parcel : IsParcel n packet
  pub destination : packet.destination ≡ x
  pub flits : net_flits packet ≡ (s.lines x).so_far ++ flit ∷ []
  pub more : whole t x ≡ whole s x ++ packet ∷ []
  pub others : (z : ℕ) → z ≢ x → whole t z ≡ whole s z
  pub turn : IsPrefix (between packet.source x (whole s x) ++ packet ∷ [])
      (between packet.source x (s.notes packet.source).sent)

-- an event by which a receiver takes a flit
abbrev pub IsAccept : NetEvent → Type 0
IsAccept (AcceptHead x flit more) = Unit {0}
IsAccept (AcceptRest x flit more) = Unit {0}
IsAccept _ = ⊥

-- the event by which a receiver takes a flit, with the head bit or without
abbrev pub accept : Bool → ℕ → ℕ → List ℕ → NetEvent
accept true x flit more = AcceptHead x flit more
accept false x flit more = AcceptRest x flit more

-- a state that events lead to from the empty network
pub record IsReached (n : Net) (s : NetState) : Type 0 where
  pub events : List NetEvent
  pub may : CanAllHappen n (empty n) events
  pub stands : s ≡ after_all n (empty n) events
