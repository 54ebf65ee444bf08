-- The bank of a tile as an agent: where it is, and what it asks of a flit that it takes and of its
-- room.
use Rattle.std.specs.Prelude.{◌≡◌, ℕ, ◌<◌, length, IfSome}
use Rattle.torus.specs.declared.shape.Class.TheVariants.{Request}
use Rattle.torus.specs.declared.step.Choice.{Choice}
use Rattle.torus.specs.declared.step.Choice.TheVariants as choice
use Rattle.packet.specs.Flit.{field}
use Rattle.packet.specs.Flits.{head_of}
use Rattle.flit_buffer.specs.Agent.{Agent}
use Rattle.home_bank.specs.BankTable.{BankState}

-- how many tiles there are, the bank's tile, for how many entries it has room, and the agent that
-- it is (this
-- project's own format)
pub record BankPlace : Type 0 where
  pub tiles : ℕ
  pub tile : ℕ
  pub room : ℕ
  pub agent : Agent BankState

-- the bank at the same place with another agent's state and ports
abbrev pub bank_with_agent : BankPlace → Agent BankState → BankPlace
bank_with_agent b a = record { tiles = b.tiles; tile = b.tile; room = b.room; agent = a }

-- a bank with room for another number of entries, in its place as it was
abbrev pub place_with_room : BankPlace → ℕ → BankPlace
place_with_room b room = record { tiles = b.tiles; tile = b.tile; room = room; agent = b.agent }

-- a head flit of a request names a word below 65536, for no memory has more words (this project's
-- own limits)
abbrev pub NamesWord : ℕ → Type 0
NamesWord flit = IfSome (head_of flit) (λ head. head.class ≡ Request → field flit 0 32 < 65536)

-- what the word found may be: where a flit is taken, one that names a word that may be (this
-- project's own format)
abbrev pub IsAcceptableToBank : Choice → ℕ → Type 0
IsAcceptableToBank choice.Take found = NamesWord found
IsAcceptableToBank _ found = Unit {0}

-- a service has room for its entry (this project's own limits)
abbrev pub HasRoom : BankPlace → Choice → Type 0
HasRoom b choice.Serve = length b.agent.state.entries < b.room
HasRoom b _ = Unit {0}
