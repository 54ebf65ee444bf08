-- The events of a network: when each may happen, and what it changes.
use Rattle.std.specs.Prelude.{◌≡◌, ℕ, ◌+◌, ◌-◌, ◌<◌, Bool, true, false, if◌then◌else◌, List, [], ◌∷◌, ◌++◌, Some, None}
use Rattle.std.specs.Prelude.{take, drop, Option}
use Rattle.wormhole.specs.Net.{Net, Parcel, IsParcel}
use Rattle.wormhole.specs.State.{NetLine, Note, NetState, update}

-- one flit moves from or to channel x, from x to y, or one credit comes back (Dally and Towles,
-- chapters 13 and 16)
pub data NetEvent : Type 0 where
  -- a sender puts the head flit of a packet into its injection channel
  InjectHead : (x : ℕ) (k : Parcel) → NetEvent
  -- a sender puts the next flit of the packet in course; more are left
  InjectRest : (x flit : ℕ) (more : List ℕ) → NetEvent
  -- a router takes the first flit of an input into the latch; more are left in the channel
  Latch : (x flit : ℕ) (more : List ℕ) → NetEvent
  -- a router puts a head flit from an input's latch into an output
  ForwardHead : (x y flit : ℕ) → NetEvent
  -- a router puts a body or tail flit from an input's latch into the output that the input owns
  ForwardRest : (x y flit : ℕ) → NetEvent
  -- a receiver takes a head flit from its ejection channel; more are left in the channel
  AcceptHead : (x flit : ℕ) (more : List ℕ) → NetEvent
  -- a receiver takes a body or tail flit
  AcceptRest : (x flit : ℕ) (more : List ℕ) → NetEvent
  -- a credit comes back to a channel's sending end
  Return : (x : ℕ) → NetEvent

-- a sender may begin a packet if none is in course and it holds a credit (Dally and Towles, chapter
-- 13)
pub record CanInjectHead (n : Net) (l : NetLine) (x : ℕ) (k : Parcel) : Type 0 where
  pub here : x < n.channels
  pub injects : n.injects x ≡ true
  pub idle : l.rest ≡ []
  pub credit : 0 < l.held
  pub parcel : IsParcel n k
  pub source : k.source ≡ x

-- a packet in course may go on if its sender holds a credit
pub record CanInjectRest (n : Net) (l : NetLine) (x flit : ℕ) (more : List ℕ) : Type 0 where
  pub here : x < n.channels
  pub injects : n.injects x ≡ true
  pub course : l.rest ≡ flit ∷ more
  pub credit : 0 < l.held

-- a router may take the first flit of an input if the latch behind it is empty (Dally and Towles,
-- chapter 16)
pub record CanLatch (n : Net) (l : NetLine) (x flit : ℕ) (more : List ℕ) : Type 0 where
  pub here : x < n.channels
  pub input : n.ejects x ≡ false
  pub free : l.latch ≡ None
  pub first : l.flits ≡ flit ∷ more

-- a head flit may go to the router's choice for it, if no input owns that output and a credit is
-- held (chapter 16)
pub record CanForwardHead (n : Net) (l m : NetLine) (x y flit : ℕ) : Type 0 where
  pub here : x < n.channels
  pub input : n.ejects x ≡ false
  pub full : l.latch ≡ Some flit
  pub head : n.is_head flit ≡ true
  pub output : y ≡ n.next x (n.told flit)
  pub free : m.owner ≡ None
  pub credit : 0 < m.held

-- a body or tail flit may go to the output that its input owns, if a credit is held (chapter 16)
pub record CanForwardRest (n : Net) (l m : NetLine) (x y flit : ℕ) : Type 0 where
  pub here : x < n.channels
  pub input : n.ejects x ≡ false
  pub full : l.latch ≡ Some flit
  pub rest : n.is_head flit ≡ false
  pub owned : m.owner ≡ Some x
  pub credit : 0 < m.held

-- a receiver may take the first flit of its channel, with the head bit or without
pub record CanAccept (n : Net) (l : NetLine) (x flit : ℕ) (more : List ℕ) (bit : Bool) : Type 0 where
  pub here : x < n.channels
  pub ejects : n.ejects x ≡ true
  pub first : l.flits ≡ flit ∷ more
  pub head : n.is_head flit ≡ bit

-- a credit may come back where one returns (Dally and Towles, chapter 13)
pub record CanReturn (n : Net) (l : NetLine) (x : ℕ) : Type 0 where
  pub here : x < n.channels
  pub returns : 0 < l.returning

-- when an event may happen: what the channels say of it
abbrev pub CanHappen : Net → (ℕ → NetLine) → NetEvent → Type 0
CanHappen n ls (InjectHead x k) = CanInjectHead n (ls x) x k
CanHappen n ls (InjectRest x flit more) = CanInjectRest n (ls x) x flit more
CanHappen n ls (Latch x flit more) = CanLatch n (ls x) x flit more
CanHappen n ls (ForwardHead x y flit) = CanForwardHead n (ls x) (ls y) x y flit
CanHappen n ls (ForwardRest x y flit) = CanForwardRest n (ls x) (ls y) x y flit
CanHappen n ls (AcceptHead x flit more) = CanAccept n (ls x) x flit more true
CanHappen n ls (AcceptRest x flit more) = CanAccept n (ls x) x flit more false
CanHappen n ls (Return x) = CanReturn n (ls x) x

-- a channel after a put: the flit is its last, and one credit less is held (Dally and Towles,
-- chapter 13)
abbrev pub put : ℕ → NetLine → NetLine
put flit l = record l { flits = l.flits ++ flit ∷ []; held = l.held - 1 }

-- a channel after its first flit was taken: the flit's credit returns (Dally and Towles, chapter
-- 13)
abbrev pub taken : List ℕ → NetLine → NetLine
taken more l = record l { flits = more; returning = l.returning + 1 }

-- an output after a put from an input: the input owns it until the tail flit (Dally and Towles,
-- chapter 16)
abbrev pub forwarded : Net → ℕ → ℕ → NetLine → NetLine
forwarded n x flit m = record (put flit m) { owner = if n.is_tail flit then None else Some x }

-- an ejection channel after its receiver took a flit: with a tail flit the packet is whole
abbrev pub accepted : Net → ℕ → List ℕ → NetLine → NetLine
accepted n flit more l = record (taken more l)
    { so_far = if n.is_tail flit then [] else l.so_far ++ flit ∷ [] }

-- an input after its latched flit was put
abbrev pub unlatched : NetLine → NetLine
unlatched l = record l { latch = None }

-- a channel after a credit came back (Dally and Towles, chapter 13)
abbrev pub credited : NetLine → NetLine
credited l = record l { held = l.held + 1; returning = l.returning - 1 }

-- the channels after an event
abbrev pub lines_after : Net → (ℕ → NetLine) → NetEvent → ℕ → NetLine
lines_after n ls (InjectHead x k) = update ls x (record (put k.head (ls x)) { rest = k.tail })
lines_after n ls (InjectRest x flit more) = update ls x (record (put flit (ls x)) { rest = more })
lines_after n ls (Latch x flit more) =
    update ls x (record (taken more (ls x)) { latch = Some flit })
lines_after n ls (ForwardHead x y flit) =
    update (update ls x (unlatched (ls x))) y (forwarded n x flit (ls y))
lines_after n ls (ForwardRest x y flit) =
    update (update ls x (unlatched (ls x))) y (forwarded n x flit (ls y))
lines_after n ls (AcceptHead x flit more) = update ls x (accepted n flit more (ls x))
lines_after n ls (AcceptRest x flit more) = update ls x (accepted n flit more (ls x))
lines_after n ls (Return x) = update ls x (credited (ls x))

-- the flits after the head flit of the first of some packets
abbrev pub first_tail : List Parcel → List ℕ
first_tail [] = []
first_tail (k ∷ ks) = k.tail

-- what is noted of a channel after a head flit came out of it: the other flits of its first packet
-- are awaited
abbrev pub popped : Note → Note
popped h = record h { parcels = drop 1 h.parcels; awaited = first_tail h.parcels }

-- what is noted of a channel after the head flit of the first of some packets was put into it: its
-- others are owed
abbrev pub pushed : List Parcel → Note → Note
pushed ks h = record h { parcels = h.parcels ++ take 1 ks; owed = first_tail ks }

-- what is noted after an event
abbrev pub notes_after : (ℕ → Note) → NetEvent → ℕ → Note
notes_after ns (InjectHead x k) =
    update ns x (record (pushed (k ∷ []) (ns x)) { sent = (ns x).sent ++ k ∷ [] })
notes_after ns (InjectRest x flit more) = update ns x (record (ns x) { owed = more })
notes_after ns (Latch x flit more) = ns
notes_after ns (ForwardHead x y flit) =
    update (update ns x (popped (ns x))) y (pushed (ns x).parcels (ns y))
notes_after ns (ForwardRest x y flit) =
    update (update ns x (record (ns x) { awaited = drop 1 (ns x).awaited })) y
    (record (ns y) { owed = drop 1 (ns y).owed })
notes_after ns (AcceptHead x flit more) =
    update ns x (record (popped (ns x)) { begun = (ns x).begun ++ take 1 (ns x).parcels })
notes_after ns (AcceptRest x flit more) =
    update ns x (record (ns x) { awaited = drop 1 (ns x).awaited })
notes_after ns (Return x) = ns

-- the network after an event
abbrev pub after : Net → NetState → NetEvent → NetState
after n s e = record { lines = lines_after n s.lines e; notes = notes_after s.notes e }

-- the network after an event, or none
abbrev pub network_after : Net → NetState → Option NetEvent → NetState
network_after n s None = s
network_after n s (Some e) = after n s e

-- the network after some events
abbrev pub after_all : Net → NetState → List NetEvent → NetState
after_all n s [] = s
after_all n s (e ∷ es) = after_all n (after n s e) es

-- each event may happen where it does
abbrev pub CanAllHappen : Net → NetState → List NetEvent → Type 0
CanAllHappen n s [] = Unit {0}
CanAllHappen n s (e ∷ es) = CanHappen n s.lines e × CanAllHappen n (after n s e) es
