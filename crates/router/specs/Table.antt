-- The table of a router's choices (Dally and Towles, Principles and Practices of Interconnection
-- Networks).
use Rattle.std.specs.Prelude.{ℕ, ◌<◌, ◌==◌, Bool, false, nat_lt, if◌then◌else◌, List, replicate, Option, Some, None}
use Rattle.std.specs.Prelude.{IfSome, option_map, slice_index_or, slice_set}
use Rattle.std.specs.List.{list_any}
use Rattle.torus.specs.Shape.{Shape, dims_of, tiles_of}
use Rattle.torus.specs.declared.step.Choice.{Choice}
use Rattle.torus.specs.declared.step.Choice.TheVariants as choice
use Rattle.packet.specs.declared.heading.Head.{Head}
use Rattle.flit_buffer.specs.Agent.{Agent}
use Rattle.flit_buffer.specs.declared.want.Want.{Want}
use Rattle.flit_buffer.specs.declared.want.Want.TheVariants.{Take, Put, Credit}
use Rattle.dateline_route.specs.Next.{next_of}
use Rattle.channel_number.specs.Ports.{port_count, input_numbered, output_number}
use Rattle.packet.specs.Flits.{head_of, is_tail}

-- the flit in the latch of each input, and the output that each input owns (Dally and Towles,
-- chapter 16: the state of the virtual channels)
pub record RouterState : Type 0 where
  pub latches : List (Option ℕ)
  pub owned : List (Option ℕ)

-- with this many inputs, in the beginning: no flit, and no output owned (Dally and Towles, chapter
-- 16)
abbrev pub empty_router : ℕ → RouterState
empty_router inputs = record { latches = replicate inputs None; owned = replicate inputs None }

-- the output for a packet that came by the input of a number: the next channel of its route (Dally
-- and Towles, chapter 8)
abbrev pub way_of : Shape → ℕ → ℕ → Head → ℕ
way_of s tile i head = output_number (dims_of s) head.class
    (next_of s tile (input_numbered (dims_of s) i) head.destination)

-- whether an input's output, if it owns one, is this
abbrev pub is_output : Option ℕ → ℕ → Bool
is_output None o = false
is_output (Some k) o = k == o

-- whether an output stands among those that inputs own
abbrev pub is_among : List (Option ℕ) → ℕ → Bool
is_among owned o = list_any (λ k. is_output k o) owned

-- whether some input owns an output (Dally and Towles, chapter 16: the state of an output virtual
-- channel)
abbrev pub is_owned : RouterState → ℕ → Bool
is_owned r o = is_among r.owned o

-- the flit in the latch of an input
abbrev pub latch_of : RouterState → ℕ → Option ℕ
latch_of r i = slice_index_or r.latches i None

-- the output that an input owns
abbrev pub output_owned : RouterState → ℕ → Option ℕ
output_owned r i = slice_index_or r.owned i None

module _ (s : Shape) (tile : ℕ) where
  -- the output for a flit of an input: a head's is the next channel of its route, if no input owns
  -- it; else the one that its input owns (chapter 16)
  abbrev pub output_for : RouterState → ℕ → Option Head → Option ℕ
  output_for r i (Some head) =
      if is_owned r (way_of s tile i head) then None else Some (way_of s tile i head)
  output_for r i None = output_owned r i

  -- to take a flit of an input, where its latch is empty
  abbrev pub wants_to_take : ℕ → Option ℕ → Option Want
  wants_to_take i None = Some (Take i)
  wants_to_take i (Some flit) = None

  -- to put the flit in a latch, where there is one and an output for it
  abbrev pub wants_to_put : RouterState → ℕ → Option ℕ → Option Want
  wants_to_put r i None = None
  wants_to_put r i (Some flit) = option_map (λ o. Put o flit) (output_for r i (head_of flit))

  -- what a choice wants: to take a flit into an empty latch, to put a latched flit on the output
  -- for it, or a credit (Dally and Towles, chapter 16)
  abbrev pub router_wants : RouterState → Choice → Option Want
  router_wants r (choice.TakeFrom i) =
      if nat_lt i (port_count (dims_of s)) then wants_to_take i (latch_of r i) else None
  router_wants r (choice.Put i) =
      if nat_lt i (port_count (dims_of s)) then wants_to_put r i (latch_of r i) else None
  router_wants r (choice.CreditOf o) =
      if nat_lt o (port_count (dims_of s)) then Some (Credit o) else None
  router_wants r _ = None

-- the router after a granted want: a head makes its input the owner of the output, a tail frees it
-- (Dally and Towles, chapter 16)
abbrev pub router_after : RouterState → Choice → Want → ℕ → RouterState
router_after r (choice.TakeFrom i) want learned =
    record { latches = slice_set r.latches i (Some learned); owned = r.owned }
router_after r (choice.Put i) (Put o flit) learned = record {
  latches = slice_set r.latches i None;
  owned = slice_set r.owned i (if is_tail flit then None else Some o);
}
router_after r _ want learned = r

-- a head flit names a tile that is there (this project's own format)
abbrev pub NamesTile : Shape → ℕ → Type 0
NamesTile s flit = IfSome (head_of flit) (λ head. head.destination < tiles_of s)

-- what the word found may be: where a flit is taken, one that names a tile (this project's own
-- format)
abbrev pub IsRoutable : Shape → Choice → ℕ → Type 0
IsRoutable s (choice.TakeFrom i) found = NamesTile s found
IsRoutable s _ found = Unit {0}

-- a router's place, and the agent that it is (this project's own format)
pub record RouterPlace : Type 0 where
  pub torus : Shape
  pub tile : ℕ
  pub agent : Agent RouterState

-- the router at the same place with another agent's state and ports
abbrev pub router_with_agent : RouterPlace → Agent RouterState → RouterPlace
router_with_agent r a = record { torus = r.torus; tile = r.tile; agent = a }
