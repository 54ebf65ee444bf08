-- The moves of a network, as its events, and when each may be made.
use Rattle.std.specs.Prelude.{◌≡◌, ◌≢◌, ℕ, ◌<◌, true, false, Bool, List, length, Option, Some, None}
use Rattle.std.specs.Prelude.{slice_index_or}
use Rattle.wormhole.specs.Net.{Net, net_flits}
use Rattle.wormhole.specs.State.{NetLine}
use Rattle.wormhole.specs.Events.{NetEvent, InjectHead, InjectRest, Latch, ForwardHead, ForwardRest}
use Rattle.wormhole.specs.Events.{AcceptHead, AcceptRest, Return, CanHappen, lines_after}
use Rattle.network_judge.specs.declared.table.Reply.{Reply}
use Rattle.network_judge.specs.Replies.{IsReply}
use Rattle.network_machine.specs.declared.moves.Move.{Move}
use Rattle.network_machine.specs.declared.moves.Move.TheVariants.{Send, More, Take, Put, Accept}
use Rattle.network_machine.specs.declared.moves.Move.TheVariants.{Credit}
use Rattle.network_machine.specs.declared.moves.Hindrance.{Hindrance}
use Rattle.network_machine.specs.declared.channel.Channel.{Channel}
use Rattle.network_machine.specs.Lines.{ShowsLine, ChannelHasRoom}

-- the move that an event is
abbrev pub event_move : NetEvent → Move
event_move (InjectHead x k) =
    Send (record { from = x; to = k.destination; length = length (net_flits k) })
event_move (InjectRest x flit more) = More x
event_move (Latch x flit more) = Take x
event_move (ForwardHead x y flit) = Put x
event_move (ForwardRest x y flit) = Put x
event_move (AcceptHead x flit more) = Accept x
event_move (AcceptRest x flit more) = Accept x
event_move (Return x) = Credit x

-- the channel of a move
abbrev pub move_channel : Move → ℕ
move_channel (Send p) = p.from
move_channel (More x) = x
move_channel (Take x) = x
move_channel (Put x) = x
move_channel (Accept x) = x
move_channel (Credit x) = x

-- a move changes what stands at its channel alone
abbrev pub IsOfOneChannel : Move → Type 0
IsOfOneChannel (Send p) = Unit {0}
IsOfOneChannel (More x) = Unit {0}
IsOfOneChannel (Take x) = Unit {0}
IsOfOneChannel (Put x) = ⊥
IsOfOneChannel (Accept x) = Unit {0}
IsOfOneChannel (Credit x) = Unit {0}

-- a move asks for what stands at its channel alone: a packet asks for its pair too, a put for an output,
-- and a receiver for its answers
abbrev pub AsksChannelAlone : Move → Type 0
AsksChannelAlone (Send p) = ⊥
AsksChannelAlone (More x) = Unit {0}
AsksChannelAlone (Take x) = Unit {0}
AsksChannelAlone (Put x) = ⊥
AsksChannelAlone (Accept x) = ⊥
AsksChannelAlone (Credit x) = Unit {0}

-- a receiver that takes a flit has a credit on each channel on which it answers
abbrev pub HasAnswerCredits : List Reply → (ℕ → NetLine) → Move → Type 0
HasAnswerCredits replies ls (Send p) = Unit {0}
HasAnswerCredits replies ls (More x) = Unit {0}
HasAnswerCredits replies ls (Take x) = Unit {0}
HasAnswerCredits replies ls (Put x) = Unit {0}
HasAnswerCredits replies ls (Accept x) = (y : ℕ) → IsReply replies x y → 0 < (ls y).held
HasAnswerCredits replies ls (Credit x) = Unit {0}

-- an event by which a move may be made
pub record CanMove (n : Net) (replies : List Reply) (ls : ℕ → NetLine) (m : Move) (e : NetEvent) : Type 0
  where
    pub is : event_move e ≡ m
    pub may : CanHappen n ls e
    pub answers : HasAnswerCredits replies ls m

-- an event makes the move, or nothing hinders it; or there is a hindrance, and no event makes it
abbrev pub Hinders : Net → List Reply → (ℕ → NetLine) → Move → Option Hindrance → Type 0
Hinders n replies ls m None = (e : NetEvent) × CanMove n replies ls m e
Hinders n replies ls m (Some h) = (e : NetEvent) → CanMove n replies ls m e → ⊥

-- each channel shows its line
abbrev pub ShowAll : (ℕ → NetLine) → List Channel → Type 0
ShowAll ls cs = (x : ℕ) (d : Channel) → x < length cs → ShowsLine (ls x) (slice_index_or cs x d)

-- each has room
abbrev pub ChannelsHaveRoom : List Channel → Type 0
ChannelsHaveRoom cs = (x : ℕ) (d : Channel) → x < length cs → ChannelHasRoom (slice_index_or cs x d)

-- each channel but two stays as it is
abbrev pub OthersStay : List Channel → List Channel → ℕ → ℕ → Type 0
OthersStay old new x y = (z : ℕ) (d : Channel) → z ≢ x → z ≢ y
    → slice_index_or new z d ≡ slice_index_or old z d

-- an event makes the move, and the channels show the lines after it; or none does
abbrev pub MakesEvent : Net → (ℕ → NetLine) → Move → List Channel → Bool → Type 0
MakesEvent n ls m cs true =
    (e : NetEvent) × (event_move e ≡ m) × CanHappen n ls e × ShowAll (lines_after n ls e) cs
MakesEvent n ls m cs false = (e : NetEvent) → event_move e ≡ m → CanHappen n ls e → ⊥
