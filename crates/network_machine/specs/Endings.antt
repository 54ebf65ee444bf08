-- How a run ends: deadlocked, empty, or with a move that may still be made.
use Rattle.std.specs.Prelude.{◌≡◌, ◌≢◌, ℕ, ◌<◌, List, [], length, slice_index_or}
use Rattle.wormhole.specs.Net.{Net}
use Rattle.wormhole.specs.State.{NetLine, NetState, in_line}
use Rattle.network_judge.specs.Receivers.{GoesWhere}
use Rattle.network_machine.specs.declared.channel.Channel.{Channel}
use Rattle.network_machine.specs.declared.moves.Move.{Move}
use Rattle.network_machine.specs.declared.moves.Move.TheVariants.{Send, More, Take, Put, Accept}
use Rattle.network_machine.specs.declared.moves.Move.TheVariants.{Credit}
use Rattle.network_machine.specs.declared.moves.Ending.{Ending}
use Rattle.network_machine.specs.declared.moves.Ending.TheVariants as ending
use Rattle.network_machine.specs.Lines.{ShowsLine}
use Rattle.network_machine.specs.Moves.{move_channel}
use Rattle.network_machine.specs.Machine.{NetworkMachineSpec, ShowsNetwork, plain_network}
use Rattle.network_machine.specs.Machine.{Permits, Prevents}

-- the moves before one at its channel, in the order more, take, put, accept, credit, are prevented;
-- a new packet is none of these
abbrev pub PreventsEarlier : NetworkMachineSpec → Move → Type 0
PreventsEarlier m (Send p) = ⊥
PreventsEarlier m (More x) = Unit {0}
PreventsEarlier m (Take x) = Prevents m (More x)
PreventsEarlier m (Put x) = Prevents m (More x) × Prevents m (Take x)
PreventsEarlier m (Accept x) = Prevents m (More x) × Prevents m (Take x) × Prevents m (Put x)
PreventsEarlier m (Credit x) =
    Prevents m (More x) × Prevents m (Take x) × Prevents m (Put x) × Prevents m (Accept x)

-- the first move at a channel that an event makes
pub record IsFirstAt (m : NetworkMachineSpec) (x : ℕ) (of : Move) : Type 0 where
  pub here : move_channel of ≡ x
  pub free : Permits m of
  pub earlier : PreventsEarlier m of

-- none is made at a channel, without a new packet
pub record PreventsAllAt (m : NetworkMachineSpec) (x : ℕ) : Type 0 where
  pub more : Prevents m (More x)
  pub take : Prevents m (Take x)
  pub put : Prevents m (Put x)
  pub accept : Prevents m (Accept x)
  pub credit : Prevents m (Credit x)

-- a flit stands in this channel or in the latch behind it
pub record HoldsFlit (cs : List Channel) (x : ℕ) : Type 0 where
  pub here : x < length cs
  pub some : (d : Channel) (l : NetLine) → ShowsLine l (slice_index_or cs x d) → in_line l ≢ []

-- none does
abbrev pub HoldsNoFlit : List Channel → ℕ → Type 0
HoldsNoFlit cs x = (d : Channel) (l : NetLine) → ShowsLine l (slice_index_or cs x d)
    → in_line l ≡ []

-- flits stand, and nothing goes (Dally and Towles, chapter 14: a deadlock)
pub record IsLocked (m : NetworkMachineSpec) (n : Net) (s : NetState) : Type 0 where
  pub still : GoesWhere n s m.replies ⊥
  pub stuck : ℕ
  pub here : stuck < n.channels
  pub stands : in_line (s.lines stuck) ≢ []

-- no flit stands, and nothing goes
pub record IsAllEmpty (m : NetworkMachineSpec) (n : Net) (s : NetState) : Type 0 where
  pub still : GoesWhere n s m.replies ⊥
  pub none : (x : ℕ) → x < n.channels → in_line (s.lines x) ≡ []

-- the first move that an event makes, by channels
pub record IsFirstMove (m : NetworkMachineSpec) (of : Move) : Type 0 where
  pub free : Permits m of
  pub earlier : PreventsEarlier m of
  pub before : (x : ℕ) → x < move_channel of → PreventsAllAt m x

-- exactly how a run ends, in each state that the machine shows
abbrev pub IsEnding : NetworkMachineSpec → Ending → Type 0
IsEnding m ending.Locked = (number : ℕ → ℕ) (top depth : ℕ) (s : NetState) → ShowsNetwork m s
    → IsLocked m (plain_network m.table number top depth) s
IsEnding m ending.Empty = (number : ℕ → ℕ) (top depth : ℕ) (s : NetState) → ShowsNetwork m s
    → IsAllEmpty m (plain_network m.table number top depth) s
IsEnding m (ending.Goes of) = IsFirstMove m of
