-- What a machine shows, and what becomes of it when a move is attempted.
use Rattle.std.specs.Prelude.{◌≡◌, ℕ, ◌<◌, List, length, slice_index_or}
use Rattle.std.specs.Prelude.{Option, Some, None, Bool, true}
use Rattle.wormhole.specs.Net.{Net}
use Rattle.wormhole.specs.State.{NetLine, NetState, empty}
use Rattle.wormhole.specs.Events.{NetEvent, after}
use Rattle.network_judge.specs.declared.table.Reply.{Reply}
use Rattle.network_judge.specs.Table.{Table, joins_of}
use Rattle.network_judge.specs.TableNet.{table_network}
use Rattle.network_judge.specs.LockUps.{plain_format}
use Rattle.network_machine.specs.declared.channel.Channel.{Channel}
use Rattle.network_machine.specs.declared.moves.Move.{Move}
use Rattle.network_machine.specs.declared.moves.Hindrance.{Hindrance}
use Rattle.network_machine.specs.Keeping.{AllKeepToRoutes}
use Rattle.network_machine.specs.declared.moves.Move.TheVariants.{Send, More, Take, Put, Accept}
use Rattle.network_machine.specs.declared.moves.Move.TheVariants.{Credit}
use Rattle.network_machine.specs.Lines.{ShowsLine}
use Rattle.network_machine.specs.Lets.{KeepsFrom}
use Rattle.network_machine.specs.Moves.{CanMove, ShowAll, MakesEvent, move_channel, OthersStay}

-- a machine: its table, who answers where, and its channels
pub record NetworkMachineSpec : Type 0 where
  pub table : Table
  pub replies : List Reply
  pub channels : List Channel

-- the network of a table, with flits of the plain format; no event asks for its numbers
abbrev pub plain_network : Table → (ℕ → ℕ) → ℕ → ℕ → Net
plain_network t number top depth = table_network t number top depth plain_format

-- the machine shows a state of its network: all of it but the notes and what receivers have so far
pub record ShowsNetwork (m : NetworkMachineSpec) (s : NetState) : Type 0 where
  pub lines : ShowAll s.lines m.channels
  pub keep : AllKeepToRoutes m.table s.lines

-- a machine that is opened shows the empty network
pub record IsOpenedNetwork (t : Table) (answers : List Reply) (depth : ℕ) (m : NetworkMachineSpec) : Type 0
  where
    pub table : m.table ≡ t
    pub replies : m.replies ≡ answers
    pub shows : (number : ℕ → ℕ) (top : ℕ) → ShowsNetwork m (empty (plain_network t number top depth))

-- two machines have one table and one list of replies
pub record SameTables (old new : NetworkMachineSpec) : Type 0 where
  pub table : new.table ≡ old.table
  pub replies : new.replies ≡ old.replies

-- the move was made: an event makes it, and the machine shows the state after it
pub record HasMadeMove (old new : NetworkMachineSpec) (n : Net) (s : NetState) (m : Move) : Type 0
  where
    pub event : NetEvent
    pub can : CanMove n old.replies s.lines m event
    pub shows : ShowsNetwork new (after n s event)

-- in each state that the machine shows an event makes the move
abbrev pub Permits : NetworkMachineSpec → Move → Type 0
Permits m move = (number : ℕ → ℕ) (top depth : ℕ) (s : NetState) → ShowsNetwork m s
    → (event : NetEvent)
    × CanMove (plain_network m.table number top depth) m.replies s.lines move event

-- in none does
abbrev pub Prevents : NetworkMachineSpec → Move → Type 0
Prevents m move = (number : ℕ → ℕ) (top depth : ℕ) (s : NetState) → ShowsNetwork m s
    → (event : NetEvent)
    → CanMove (plain_network m.table number top depth) m.replies s.lines move event → ⊥

-- what stands at its channel alone keeps a move from being made
pub record IsKept (m : NetworkMachineSpec) (of : Move) : Type 0 where
  pub here : move_channel of < length m.channels
  pub keeps : (d : Channel) (l : NetLine)
      → ShowsLine l (slice_index_or m.channels (move_channel of) d) → KeepsFrom l of

-- each channel but two is as it was
pub record KeepsOtherChannels (old new : NetworkMachineSpec) (x y : ℕ) : Type 0 where
  pub size : length new.channels ≡ length old.channels
  pub others : OthersStay old.channels new.channels x y

-- no hindrance, and an event makes the move; or one, and none does
abbrev pub Settles : NetworkMachineSpec → Move → Option Hindrance → Type 0
Settles m move None = Permits m move
Settles m move (Some h) = Prevents m move

-- the channel of a move, and where it is a packet's, its pair, are there
abbrev pub IsInReach : NetworkMachineSpec → Move → Type 0
IsInReach m (Send p) = (p.from < length m.channels) × (joins_of m.table p.from p.to ≡ true)
IsInReach m (More x) = x < length m.channels
IsInReach m (Take x) = x < length m.channels
IsInReach m (Put x) = x < length m.channels
IsInReach m (Accept x) = x < length m.channels
IsInReach m (Credit x) = x < length m.channels

-- the channels once a move is tried: it is made in each state, or no event makes it
abbrev pub MakesAll : NetworkMachineSpec → NetworkMachineSpec → Move → Bool → Type 0
MakesAll old new move made = (number : ℕ → ℕ) (top depth : ℕ) (s : NetState) → ShowsNetwork old s
    → MakesEvent (plain_network old.table number top depth) s.lines move new.channels made

-- in each state that the machine showed an event makes the move, and it shows the state after it
abbrev pub MovesAll : NetworkMachineSpec → NetworkMachineSpec → Move → Type 0
MovesAll old new move = (number : ℕ → ℕ) (top depth : ℕ) (s : NetState) → ShowsNetwork old s
    → HasMadeMove old new (plain_network old.table number top depth) s move
