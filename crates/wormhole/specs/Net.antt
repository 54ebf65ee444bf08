-- A network of channels, known by their numbers: its routes, and what its flits tell.
-- Chapters are those of Dally and Towles, Principles and Practices of Interconnection Networks.
use Rattle.std.specs.Prelude.{◌≡◌, ℕ, ◌<◌, Bool, true, false, List, [], ◌∷◌, ◌++◌}

-- a network: its channels, its routes and what its flits tell (Dally and Towles, chapters 8, 12 and
-- 14)
pub record Net : Type 0 where
  -- how many channels there are, numbered from 0
  pub channels : ℕ
  -- how many flits a channel holds
  pub depth : ℕ
  -- an injection channel: a sender, and no router, puts flits into it
  pub injects : ℕ → Bool
  -- an ejection channel: a receiver, and no router, takes flits from it
  pub ejects : ℕ → Bool
  -- whether packets go from an injection channel to an ejection channel
  pub joins : ℕ → ℕ → Bool
  -- the route from an injection channel to an ejection channel: its channels, in order
  pub route : ℕ → ℕ → List ℕ
  -- the channel that the router behind a channel chooses for packets to an ejection channel
  pub next : ℕ → ℕ → ℕ
  -- a channel's number in the order that rises along the routes, and a bound of these numbers
  pub number : ℕ → ℕ
  pub top : ℕ
  -- a flit's head bit and tail bit, and the ejection channel that a head flit tells
  pub is_head : ℕ → Bool
  pub is_tail : ℕ → Bool
  pub told : ℕ → ℕ

-- an item is on a list
abbrev pub IsOn : {A : Type 0} → A → List A → Type 0
IsOn {A} x xs = (before : List A) × (after : List A) × (xs ≡ before ++ x ∷ after)

-- a wormhole network whose channels' numbers rise along its routes (Dally and Towles, chapters 8
-- and 14)
pub record IsNet (n : Net) : Type 0 where
  -- packets go from injection channels to ejection channels
  pub senders : (i j : ℕ) → n.joins i j ≡ true → n.injects i ≡ true
  pub receivers : (i j : ℕ) → n.joins i j ≡ true → n.ejects j ≡ true
  -- a route begins with the one and ends with the other, and has none of them between
  pub begins : (i j : ℕ) → n.joins i j ≡ true → (after : List ℕ) × (n.route i j ≡ i ∷ after)
  pub ends : (i j : ℕ) → n.joins i j ≡ true → (before : List ℕ) × (n.route i j ≡ before ++ j ∷ [])
  pub ejects : (i j x : ℕ) → n.joins i j ≡ true → IsOn x (n.route i j) → n.ejects x ≡ true → x ≡ j
  pub injects : (i j x : ℕ) → n.joins i j ≡ true → IsOn x (n.route i j) → n.injects x ≡ true → x ≡ i
  -- each further channel is the choice of the router behind the one before
  pub walks : (i j x : ℕ) (before after : List ℕ) → n.joins i j ≡ true → n.ejects x ≡ false
      → n.route i j ≡ before ++ x ∷ after → (rest : List ℕ) × (after ≡ n.next x j ∷ rest)
  -- of two channels of a route the later has the greater number
  pub rises : (i j x y : ℕ) (before between after : List ℕ) → n.joins i j ≡ true
      → n.route i j ≡ before ++ x ∷ between ++ y ∷ after → n.number x < n.number y
  -- routes go over the network's channels, and these have numbers below the bound
  pub within : (i j x : ℕ) → n.joins i j ≡ true → IsOn x (n.route i j) → x < n.channels
  pub bounded : (x : ℕ) → x < n.channels → n.number x < n.top

-- whether there are no flits
abbrev pub has_no_flit : List ℕ → Bool
has_no_flit [] = true
has_no_flit (flit ∷ flits) = false

-- body flits and a tail flit, or none: no head bit, and the tail bit on the last alone (Dally and
-- Towles, chapter 12)
abbrev pub EndsWithTail : Net → List ℕ → Type 0
EndsWithTail n [] = Unit {0}
EndsWithTail n (flit ∷ flits) =
    (n.is_head flit ≡ false) × (n.is_tail flit ≡ has_no_flit flits) × EndsWithTail n flits

-- a packet: the channels that it goes from and to, a number that its sender gives it, its head flit
-- and those after it
pub record Parcel : Type 0 where
  pub source : ℕ
  pub destination : ℕ
  pub index : ℕ
  pub head : ℕ
  pub tail : List ℕ

-- the flits of a packet, in order
abbrev pub net_flits : Parcel → List ℕ
net_flits k = k.head ∷ k.tail

-- the flits of some packets, one packet after the other
abbrev pub flits_of_all : List Parcel → List ℕ
flits_of_all [] = []
flits_of_all (k ∷ ks) = net_flits k ++ flits_of_all ks

-- a packet of the network (Dally and Towles, chapter 12): its head flit alone has the head bit, and
-- tells where it goes
pub record IsParcel (n : Net) (k : Parcel) : Type 0 where
  pub joined : n.joins k.source k.destination ≡ true
  pub head : n.is_head k.head ≡ true
  pub told : n.told k.head ≡ k.destination
  -- a packet of one flit has the tail bit in its head flit
  pub alone : n.is_tail k.head ≡ has_no_flit k.tail
  pub tail : EndsWithTail n k.tail
