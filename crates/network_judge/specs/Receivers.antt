-- Receivers that answer on injection channels, and when somebody goes.
use Rattle.std.specs.Prelude.{◌≡◌, ◌⊎◌, ℕ, ◌<◌, true, Some, List, ◌∷◌}
use Rattle.wormhole.specs.Net.{Net}
use Rattle.wormhole.specs.State.{NetState}
use Rattle.wormhole.specs.Events.{NetEvent, CanHappen}
use Rattle.wormhole.specs.Ends.{Tiles, IsOwed}
use Rattle.network_judge.specs.declared.table.Kind.TheVariants.{Injection, Ejection}
use Rattle.network_judge.specs.declared.table.Reply.{Reply}
use Rattle.network_judge.specs.Table.{Table, kind_of}
use Rattle.network_judge.specs.Replies.{IsReply}

-- a flit stands first in an ejection channel, and each channel on which its receiver answers holds
-- a credit (Dally and Towles, chapters 13 and 14)
pub record CanBeTaken (n : Net) (s : NetState) (replies : List Reply) (x flit : ℕ) (more : List ℕ) : Type
    0 where
  pub here : x < n.channels
  pub ejects : n.ejects x ≡ true
  pub first : (s.lines x).flits ≡ flit ∷ more
  pub credits : (y : ℕ) → IsReply replies x y → 0 < (s.lines y).held

-- Go follows from each of these: an owed event that may happen, and a receiver with a flit and its
-- credits. So routers and senders go wherever they may, and receivers take a flit wherever they can
-- answer.
pub record GoesWhere (n : Net) (s : NetState) (replies : List Reply) (Go : Type 0) : Type 0 where
  pub moves : (e : NetEvent) → IsOwed e → CanHappen n s.lines e → Go
  pub takes : (x flit : ℕ) (more : List ℕ) → CanBeTaken n s replies x flit more → Go

-- something that can move: one of the two above
pub data MoveThere (n : Net) (s : NetState) (replies : List Reply) : Type 0 where
  Moves : (e : NetEvent) → IsOwed e → CanHappen n s.lines e → MoveThere n s replies
  Takes : (x flit : ℕ) (more : List ℕ) → CanBeTaken n s replies x flit more → MoveThere n s replies

-- Tiles at the ends of a table's channels: each ejection channel is a processor's or a bank's, and
-- a bank answers as the replies say (Dally and Towles, chapter 20).
pub record AreEndsOfTiles (t : Table) (replies : List Reply) (tiles : Tiles) : Type 0 where
  pub receivers : (x : ℕ) → kind_of t x ≡ Some Ejection
      → ((p : ℕ) × (p < tiles.count) × (x ≡ tiles.hears p))
      ⊎ ((b : ℕ) × (b < tiles.count) × (x ≡ tiles.serves b))
  pub asks : (p : ℕ) → p < tiles.count → kind_of t (tiles.asks p) ≡ Some Injection
  pub hears : (p : ℕ) → p < tiles.count → kind_of t (tiles.hears p) ≡ Some Ejection
  pub answers : (b : ℕ) → b < tiles.count → IsReply replies (tiles.serves b) (tiles.replies b)
