-- What a channel's line lets its ends do, or a hindrance.
use Rattle.std.specs.Prelude.{◌≡◌, ◌≢◌, ℕ, ◌<◌, Bool, true, false, List, [], ◌∷◌, Option, Some, None}
use Rattle.wormhole.specs.State.{NetLine, in_line}
use Rattle.network_machine.specs.declared.moves.Hindrance.{Hindrance}
use Rattle.network_machine.specs.declared.moves.Move.{Move}
use Rattle.network_machine.specs.declared.channel.Channel.{Channel}
use Rattle.network_machine.specs.declared.free.Lets.{Lets}
use Rattle.network_machine.specs.Lines.{ShowsLine}
use Rattle.network_machine.specs.declared.moves.Move.TheVariants.{Send, More, Take, Put, Accept}
use Rattle.network_machine.specs.declared.moves.Move.TheVariants.{Credit}

-- the router behind it takes a flit
abbrev pub LetsTake : NetLine → Option Hindrance → Type 0
LetsTake l None = (flit : ℕ) × (more : List ℕ) × (l.latch ≡ None) × (l.flits ≡ flit ∷ more)
LetsTake l (Some h) = (flit : ℕ) (more : List ℕ) → l.latch ≡ None → l.flits ≡ flit ∷ more → ⊥

-- a credit comes back
abbrev pub LetsReturn : NetLine → Option Hindrance → Type 0
LetsReturn l None = 0 < l.returning
LetsReturn l (Some h) = 0 < l.returning → ⊥

-- its receiver takes a flit
abbrev pub LetsAccept : NetLine → Option Hindrance → Type 0
LetsAccept l None = (flit : ℕ) × (more : List ℕ) × (l.flits ≡ flit ∷ more)
LetsAccept l (Some h) = (flit : ℕ) (more : List ℕ) → l.flits ≡ flit ∷ more → ⊥

-- its sender begins a packet
abbrev pub LetsBegin : NetLine → Option Hindrance → Type 0
LetsBegin l None = (l.rest ≡ []) × (0 < l.held)
LetsBegin l (Some h) = l.rest ≡ [] → 0 < l.held → ⊥

-- its sender goes on with a packet
abbrev pub LetsGoOn : NetLine → Option Hindrance → Type 0
LetsGoOn l None = (flit : ℕ) × (more : List ℕ) × (l.rest ≡ flit ∷ more) × (0 < l.held)
LetsGoOn l (Some h) = (flit : ℕ) (more : List ℕ) → l.rest ≡ flit ∷ more → 0 < l.held → ⊥

-- whether flits are in it or in the latch behind it
abbrev pub TellsFlits : NetLine → Bool → Type 0
TellsFlits l true = in_line l ≢ []
TellsFlits l false = in_line l ≡ []

-- what a line has keeps it from a move
abbrev pub KeepsFrom : NetLine → Move → Type 0
KeepsFrom l (Send p) = l.rest ≡ [] → 0 < l.held → ⊥
KeepsFrom l (More x) = (flit : ℕ) (more : List ℕ) → l.rest ≡ flit ∷ more → 0 < l.held → ⊥
KeepsFrom l (Take x) = (flit : ℕ) (more : List ℕ) → l.latch ≡ None → l.flits ≡ flit ∷ more → ⊥
KeepsFrom l (Put x) = l.latch ≡ None
KeepsFrom l (Accept x) = (flit : ℕ) (more : List ℕ) → l.flits ≡ flit ∷ more → ⊥
KeepsFrom l (Credit x) = 0 < l.returning → ⊥

-- whether a move is among those that a channel lets be made; a new packet always is
abbrev pub is_let : Lets → Move → Bool
is_let l (Send p) = true
is_let l (More x) = l.more
is_let l (Take x) = l.take
is_let l (Put x) = l.put
is_let l (Accept x) = l.accept
is_let l (Credit x) = l.credit

-- the others are kept from being made
abbrev pub LetsMoves : Channel → Lets → Type 0
LetsMoves c lets = (l : NetLine) (of : Move) → ShowsLine l c → is_let lets of ≡ false
    → KeepsFrom l of
