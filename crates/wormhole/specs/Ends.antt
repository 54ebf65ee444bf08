-- The ends of a network's tiles, and when somebody goes.
use Rattle.std.specs.Prelude.{◌≡◌, ◌⊎◌, ℕ, ◌<◌, true, List, [], ◌∷◌}
use Rattle.wormhole.specs.Net.{Net}
use Rattle.wormhole.specs.State.{NetState, in_line}
use Rattle.wormhole.specs.Events.{NetEvent, InjectHead, InjectRest, Latch, ForwardHead, ForwardRest, AcceptHead}
use Rattle.wormhole.specs.Events.{AcceptRest, Return}
use Rattle.wormhole.specs.Events.{CanHappen}

-- the channels at the ends of each tile: its processor asks on one and hears on another, and its
-- bank serves what comes
-- on one and replies on another (Dally and Towles, chapter 20)
pub record Tiles : Type 0 where
  pub count : ℕ
  pub asks : ℕ → ℕ
  pub hears : ℕ → ℕ
  pub serves : ℕ → ℕ
  pub replies : ℕ → ℕ

-- Each receiver is a processor or a bank, and a bank's replies are numbered above its requests
-- (Dally and Towles,
-- chapter 14).
pub record AreTiles (n : Net) (tiles : Tiles) : Type 0 where
  pub receivers : (x : ℕ) → x < n.channels → n.ejects x ≡ true
      → ((p : ℕ) × (p < tiles.count) × (x ≡ tiles.hears p))
      ⊎ ((b : ℕ) × (b < tiles.count) × (x ≡ tiles.serves b))
  pub asks_within : (p : ℕ) → p < tiles.count → tiles.asks p < n.channels
  pub hears_within : (p : ℕ) → p < tiles.count → tiles.hears p < n.channels
  pub serves_within : (b : ℕ) → b < tiles.count → tiles.serves b < n.channels
  pub replies_within : (b : ℕ) → b < tiles.count → tiles.replies b < n.channels
  pub above : (b : ℕ) → b < tiles.count → n.number (tiles.serves b) < n.number (tiles.replies b)

-- an event of a router, of a sender with a packet in course, or of a credit: all but a packet's
-- first flit and what a
-- receiver takes (this project's own format)
abbrev pub IsOwed : NetEvent → Type 0
IsOwed (InjectHead x k) = ⊥
IsOwed (InjectRest x flit more) = Unit {0}
IsOwed (Latch x flit more) = Unit {0}
IsOwed (ForwardHead x y flit) = Unit {0}
IsOwed (ForwardRest x y flit) = Unit {0}
IsOwed (AcceptHead x flit more) = ⊥
IsOwed (AcceptRest x flit more) = ⊥
IsOwed (Return x) = Unit {0}

-- a flit stands first in the channel on which a processor hears
pub record CanReceive (s : NetState) (tiles : Tiles) (p flit : ℕ) (more : List ℕ) : Type 0 where
  pub here : p < tiles.count
  pub first : (s.lines (tiles.hears p)).flits ≡ flit ∷ more

-- a flit stands first in the channel that a bank serves, and the bank holds a credit to reply
pub record CanServe (s : NetState) (tiles : Tiles) (b flit : ℕ) (more : List ℕ) : Type 0 where
  pub here : b < tiles.count
  pub first : (s.lines (tiles.serves b)).flits ≡ flit ∷ more
  pub credit : 0 < (s.lines (tiles.replies b)).held

-- Go follows from each of these: an owed event that may happen, a processor that hears a flit, and
-- a bank with a flit
-- and a credit to reply. So routers and senders go wherever they may, processors take every flit,
-- and banks get on.
pub record Goes (n : Net) (s : NetState) (tiles : Tiles) (Go : Type 0) : Type 0 where
  pub moves : (e : NetEvent) → IsOwed e → CanHappen n s.lines e → Go
  pub takes : (p flit : ℕ) (more : List ℕ) → CanReceive s tiles p flit more → Go
  pub serves : (b flit : ℕ) (more : List ℕ) → CanServe s tiles b flit more → Go

-- something that can move: one of the three above
pub data NetMove (n : Net) (s : NetState) (tiles : Tiles) : Type 0 where
  Moves : (e : NetEvent) → IsOwed e → CanHappen n s.lines e → NetMove n s tiles
  Takes : (p flit : ℕ) (more : List ℕ) → CanReceive s tiles p flit more → NetMove n s tiles
  Serves : (b flit : ℕ) (more : List ℕ) → CanServe s tiles b flit more → NetMove n s tiles

-- a channel is quiet: no flit stands in it or in the latch behind it, none is owed to it or awaited
-- from it, and its
-- sending end holds all credits (Dally and Towles, chapter 13)
pub record IsQuiet (n : Net) (s : NetState) (x : ℕ) : Type 0 where
  pub line : in_line (s.lines x) ≡ []
  pub owed : (s.notes x).owed ≡ []
  pub awaited : (s.notes x).awaited ≡ []
  pub parcels : (s.notes x).parcels ≡ []
  pub credits : (s.lines x).held ≡ n.depth
