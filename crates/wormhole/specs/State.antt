-- The state of a network: its channels, and what is noted of the packets.
use Rattle.std.specs.Prelude.{ℕ, ◌==◌, if◌then◌else◌, List, [], ◌++◌, Option, None, option_to_list}
use Rattle.wormhole.specs.Net.{Net, Parcel}

-- a channel and what stands at its two ends (Dally and Towles, chapters 13 and 16)
pub record NetLine : Type 0 where
  -- the flits in its buffer, the first to come out first
  pub flits : List ℕ
  -- the credits that its sending end holds, and those that are on their way back there
  pub held : ℕ
  pub returning : ℕ
  -- the flit that the router behind it has taken from it and not yet put
  pub latch : Option ℕ
  -- the input that owns it, where it leaves a router
  pub owner : Option ℕ
  -- the flits of the packet in course that its sender has yet to put, where it is an injection
  -- channel
  pub rest : List ℕ
  -- the flits that its receiver has of a packet that isn't whole yet, where it is an ejection
  -- channel
  pub so_far : List ℕ

-- what is noted of a channel's packets; no condition of an event looks at it
pub record Note : Type 0 where
  -- the packets whose head flits are in the channel or in the latch behind it
  pub parcels : List Parcel
  -- the flits yet to come out of it, of the packet whose head flit came out last
  pub awaited : List ℕ
  -- the flits yet to be put into it, of the packet whose head flit was put last
  pub owed : List ℕ
  -- the packets whose head flits a sender put into it
  pub sent : List Parcel
  -- the packets whose head flits a receiver took from it
  pub begun : List Parcel

-- the channels of a network by their numbers, and what is noted of them
pub record NetState : Type 0 where
  pub lines : ℕ → NetLine
  pub notes : ℕ → Note

-- the flits that went into a channel and haven't left the latch behind it, the first to leave first
abbrev pub in_line : NetLine → List ℕ
in_line l = option_to_list l.latch ++ l.flits

-- a function with a new value at one place
abbrev pub update : {A : Type 0} → (ℕ → A) → ℕ → A → ℕ → A
update f x v y = if y == x then v else f y

-- a channel in which nothing is, and of which the sending end holds all credits
abbrev pub empty_line : Net → NetLine
empty_line n = record {
  flits = [];
  held = n.depth;
  returning = 0;
  latch = None;
  owner = None;
  rest = [];
  so_far = [];
}

-- nothing has been noted
abbrev pub empty_note : Note
empty_note = record { parcels = []; awaited = []; owed = []; sent = []; begun = [] }

-- the network before any packet
abbrev pub empty : Net → NetState
empty n = record { lines = λ x. empty_line n; notes = λ x. empty_note }
