-- What a channel shows, and what moves make of its line: those of the network's events.
use Rattle.std.specs.Prelude.{◌≡◌, ℕ, ◌+◌, ◌-◌, ◌<◌, ◌≤◌, Bool, true, false, List, [], ◌∷◌, cond, length}
use Rattle.std.specs.Prelude.{Some, None}
use Rattle.wormhole.specs.State.{NetLine}
use Rattle.wormhole.specs.Events.{put, taken, credited}
use Rattle.network_machine.specs.declared.channel.Channel.{Channel}
use Rattle.network_machine.specs.Packets.{head_word, rest_words}

-- the channel shows this line, but for what its receiver has so far
pub record ShowsLine (l : NetLine) (c : Channel) : Type 0 where
  pub flits : l.flits ≡ c.flits.items
  pub held : l.held ≡ c.held
  pub returning : l.returning ≡ c.returning
  pub latch : l.latch ≡ c.latch
  pub owner : l.owner ≡ c.owner
  pub rest : l.rest ≡ rest_words c.left

-- credits and flits are together no more than a channel can hold
abbrev pub ChannelHasRoom : Channel → Type 0
ChannelHasRoom c = c.held + length c.flits.items + c.returning ≤ 8

-- a flit is taken into the latch, or there is none, or the latch is full
abbrev pub TakesFlit : NetLine → Channel → Bool → Type 0
TakesFlit l c true =
    (flit : ℕ) × (more : List ℕ) × (l.latch ≡ None) × (l.flits ≡ flit ∷ more)
    × ShowsLine (record (taken more l) { latch = Some flit }) c
TakesFlit l c false = (flit : ℕ) (more : List ℕ) → l.latch ≡ None → l.flits ≡ flit ∷ more → ⊥

-- a flit is put, or no credit is held
abbrev pub PutsFlit : NetLine → Channel → ℕ → Bool → Type 0
PutsFlit l c flit true = (0 < l.held) × ShowsLine (put flit l) c
PutsFlit l c flit false = 0 < l.held → ⊥

-- a credit comes back, or none is on its way
abbrev pub Credits : NetLine → Channel → Bool → Type 0
Credits l c true = (0 < l.returning) × ShowsLine (credited l) c
Credits l c false = 0 < l.returning → ⊥

-- a flit is put from an input, or no credit is held
abbrev pub PutsFrom : NetLine → Channel → ℕ → ℕ → Bool → Bool → Type 0
PutsFrom l c flit x is_tail true =
    (0 < l.held) × ShowsLine (record (put flit l) { owner = cond is_tail None (Some x) }) c
PutsFrom l c flit x is_tail false = 0 < l.held → ⊥

-- a receiver takes the first flit, or there is none
abbrev pub Accepts : NetLine → Channel → Bool → Type 0
Accepts l c true = (flit : ℕ) × (more : List ℕ) × (l.flits ≡ flit ∷ more) × ShowsLine (taken more l) c
Accepts l c false = (flit : ℕ) (more : List ℕ) → l.flits ≡ flit ∷ more → ⊥

-- a sender begins a packet of so many flits, or one is in course, or it holds no credit
abbrev pub Begins : NetLine → Channel → ℕ → ℕ → Bool → Type 0
Begins l c to count true =
    (l.rest ≡ []) × (0 < l.held) × (0 < count)
    × ShowsLine (record (put (head_word to count) l) { rest = rest_words (count - 1) }) c
Begins l c to count false = l.rest ≡ [] → 0 < l.held → 0 < count → ⊥

-- a sender puts the next flit of the packet in course, or none is in course, or it holds no credit
abbrev pub SendsMore : NetLine → Channel → Bool → Type 0
SendsMore l c true =
    (flit : ℕ) × (more : List ℕ) × (l.rest ≡ flit ∷ more) × (0 < l.held)
    × ShowsLine (record (put flit l) { rest = more }) c
SendsMore l c false = (flit : ℕ) (more : List ℕ) → l.rest ≡ flit ∷ more → 0 < l.held → ⊥
