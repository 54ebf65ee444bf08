-- Endpoints that answer: a receiver takes a packet only while its queue has room, and the first of its
-- queue waits until its answers are sent.
-- Dally and Towles, Principles and Practices of Interconnection Networks, 2004, chapter 14 (protocol
-- deadlock); Hansson, Goossens and Radulescu, Avoiding message-dependent deadlock in network-based
-- systems on chip, 2007.
use Rattle.std.specs.Prelude.{◌≡◌, ◌⊎◌, ℕ, ◌<◌, Bool, true, false, if◌then◌else◌, List, [], ◌∷◌}
use Rattle.std.specs.Prelude.{◌++◌, length, All}
use Rattle.wormhole.specs.Net.{Net, Parcel}
use Rattle.wormhole.specs.State.{NetState, update, empty}
use Rattle.wormhole.specs.Events.{NetEvent, InjectHead, AcceptHead, AcceptRest, CanHappen, after}
use Rattle.wormhole.specs.Ends.{IsOwed, IsQuiet}
use Rattle.network_judge.specs.declared.table.Reply.{Reply}
use Rattle.network_judge.specs.Replies.{IsReply}

-- the endpoints of a network: on which injection channels whoever takes packets from an ejection
-- channel answers, how many packets it may have taken and not answered, and which injection channels
-- have senders that send unasked (Hansson, Goossens and Radulescu: message types and buffers)
pub record Endpoints : Type 0 where
  pub replies : List Reply
  pub room : ℕ → ℕ
  pub free : ℕ → Bool

-- what is owed for a packet that was taken: an answer on a first injection channel, then on others
pub record Owing : Type 0 where
  pub first : ℕ
  pub others : List ℕ

-- the network, and for each ejection channel the packets whose answers aren't all sent, the oldest
-- first
pub record EndState : Type 0 where
  pub net : NetState
  pub queue : ℕ → List Owing

-- what is owed for a packet that begets answers on these channels: nothing, if there are none
abbrev pub owing_of : List ℕ → List Owing
owing_of [] = []
owing_of (y ∷ ys) = record { first = y; others = ys } ∷ []

-- a queue once its first answer is sent
abbrev pub answered : List Owing → List Owing
answered [] = []
answered (o ∷ os) = owing_of o.others ++ os

-- One event. The answers that a packet begets are told with its tail flit: they are what the packet,
-- its class or its endpoint says, in order, and may be none.
pub data EndEvent : Type 0 where
  -- of the network alone: of a router, of a credit, or of a sender
  OfNetwork : (e : NetEvent) → EndEvent
  -- a receiver takes a head flit, or a body or tail flit; more are left in the channel
  TakeHead : (x flit : ℕ) (more begets : List ℕ) → EndEvent
  TakeRest : (x flit : ℕ) (more begets : List ℕ) → EndEvent
  -- the endpoint behind ejection channel x begins to send a packet, the next answer that it owes
  Answer : (x : ℕ) (k : Parcel) → EndEvent

-- what the network does at an event
abbrev pub net_event : EndEvent → NetEvent
net_event (OfNetwork e) = e
net_event (TakeHead x flit more begets) = AcceptHead x flit more
net_event (TakeRest x flit more begets) = AcceptRest x flit more
net_event (Answer x k) = InjectHead k.source k

-- a queue once a flit is taken: with a tail flit what its packet begets joins it
abbrev pub taken_in : Net → ℕ → List ℕ → List Owing → List Owing
taken_in n flit begets os = if n.is_tail flit then os ++ owing_of begets else os

-- the queues after an event
abbrev pub queue_after : Net → (ℕ → List Owing) → EndEvent → ℕ → List Owing
queue_after n q (OfNetwork e) = q
queue_after n q (TakeHead x flit more begets) = update q x (taken_in n flit begets (q x))
queue_after n q (TakeRest x flit more begets) = update q x (taken_in n flit begets (q x))
queue_after n q (Answer x k) = update q x (answered (q x))

-- the network and its queues after an event
abbrev pub end_after : Net → EndState → EndEvent → EndState
end_after n s e = record { net = after n s.net (net_event e); queue = queue_after n s.queue e }

-- an event of the network alone: it is no receiver's, and begins a packet only where senders send
-- unasked
abbrev pub IsUnasked : Endpoints → NetEvent → Type 0
IsUnasked p (InjectHead x k) = p.free x ≡ true
IsUnasked p (AcceptHead x flit more) = ⊥
IsUnasked p (AcceptRest x flit more) = ⊥
IsUnasked p _ = Unit {0}

-- the answers to a packet from an ejection channel go on channels on which it is answered
abbrev pub Begets : Endpoints → ℕ → List ℕ → Type 0
Begets p x begets = All (λ y. IsReply p.replies x y) begets

-- the next answer that the endpoint behind ejection channel x owes goes on channel y
pub record OwesOn (s : EndState) (x y : ℕ) : Type 0 where
  pub owing : Owing
  pub others : List Owing
  pub next : s.queue x ≡ owing ∷ others
  pub on : owing.first ≡ y

-- when endpoints let an event happen: a head flit is taken only while the queue has room, and an
-- answer is sent only if it is owed (Dally and Towles, chapter 14)
abbrev pub EndsMay : Net → Endpoints → EndState → EndEvent → Type 0
EndsMay n p s (OfNetwork e) = IsUnasked p e
EndsMay n p s (TakeHead x flit more begets) =
    (length (s.queue x) < p.room x) × Begets p x begets
EndsMay n p s (TakeRest x flit more begets) = Begets p x begets
EndsMay n p s (Answer x k) = OwesOn s x k.source

-- when an event may happen: where the network and the endpoints let it
pub record EndsCanHappen (n : Net) (p : Endpoints) (s : EndState) (e : EndEvent) : Type 0 where
  pub net : CanHappen n s.net.lines (net_event e)
  pub ends : EndsMay n p s e

-- each of some events may happen where it does
abbrev pub EndsCanAllHappen : Net → Endpoints → EndState → List EndEvent → Type 0
EndsCanAllHappen n p s [] = Unit {0}
EndsCanAllHappen n p s (e ∷ es) =
    EndsCanHappen n p s e × EndsCanAllHappen n p (end_after n s e) es

-- the network and its queues after some events
abbrev pub end_after_all : Net → EndState → List EndEvent → EndState
end_after_all n s [] = s
end_after_all n s (e ∷ es) = end_after_all n (end_after n s e) es

-- the network and its queues before any packet
abbrev pub at_first : Net → EndState
at_first n = record { net = empty n; queue = λ x. [] }

-- what some events lead to from there
pub record EndsReached (n : Net) (p : Endpoints) (s : EndState) : Type 0 where
  pub events : List EndEvent
  pub may : EndsCanAllHappen n p (at_first n) events
  pub stands : s ≡ end_after_all n (at_first n) events

-- a flit that the receiver must take stands first in ejection channel x: one of a packet in course,
-- or a head flit while the queue has room
pub record MustTake (n : Net) (p : Endpoints) (s : EndState) (x flit : ℕ) (more : List ℕ) : Type 0
  where
    pub here : x < n.channels
    pub ejects : n.ejects x ≡ true
    pub first : (s.net.lines x).flits ≡ flit ∷ more
    pub room : (n.is_head flit ≡ false) ⊎ (length (s.queue x) < p.room x)

-- an endpoint that must send its next answer on channel y: no packet is in course there, and a credit
-- is held
pub record MustAnswer (n : Net) (s : EndState) (x y : ℕ) : Type 0 where
  pub here : y < n.channels
  pub injects : n.injects y ≡ true
  pub owes : OwesOn s x y
  pub idle : (s.net.lines y).rest ≡ []
  pub credit : 0 < (s.net.lines y).held

-- something that must go in the end: what routers, senders with a packet in course and credits owe,
-- and the two above (Dally and Towles, chapter 14: where nothing does, there is a deadlock)
pub data EndMove (n : Net) (p : Endpoints) (s : EndState) : Type 0 where
  NetGoes : (e : NetEvent) → IsOwed e → CanHappen n s.net.lines e → EndMove n p s
  Takes : (x flit : ℕ) (more : List ℕ) → MustTake n p s x flit more → EndMove n p s
  Answers : (x y : ℕ) → MustAnswer n s x y → EndMove n p s

-- nothing is left: no flit stands anywhere, and no answer is owed
pub record AllIsDone (n : Net) (s : EndState) : Type 0 where
  pub quiet : (x : ℕ) → x < n.channels → IsQuiet n s.net x
  pub none : (x : ℕ) → x < n.channels → s.queue x ≡ []
