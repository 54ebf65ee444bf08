-- The choices of routers that may be enabled, and those that a move can enable.
use Rattle.std.specs.Prelude.{◌≡◌, ℕ, ◌/◌, ◌==◌, ◌&&◌, ◌||◌, Bool, true, false, not, nat_lt}
use Rattle.std.specs.Prelude.{if◌then◌else◌, Option, Some}
use Rattle.std.specs.Prelude.{None, option_and_then, slice_get}
use Rattle.torus.specs.Shape.{Shape}
use Rattle.torus.specs.declared.step.Step.{Step}
use Rattle.torus.specs.declared.step.Choice.{Choice}
use Rattle.torus.specs.declared.step.Choice.TheVariants.{TakeFrom, Put, CreditOf}
use Rattle.channel_number.specs.Order.{channel_at}
use Rattle.channel_number.specs.Ports.{is_injection, is_ejection, input_router, input_port, output_router, output_port}
use Rattle.flit_buffer.specs.declared.word_op.WordOp.{WordOp}
use Rattle.flit_buffer.specs.declared.word_op.WordOp.TheVariants.{Store, Swap}
use Rattle.router.specs.Table.{latch_of}
use Rattle.core_laws.specs.Agent.TheVariants.{Router}
use Rattle.core_laws.specs.Tile.{Design}
use Rattle.core_laws.specs.Agents.{agent_number}
use Rattle.core_laws.specs.Core.{State, step}
use Rattle.core_laws.specs.Operations.{wake_places}

-- a choice of tile t's router
abbrev pub of_router : ℕ → Choice → Step
of_router t choice = record { agent = agent_number t Router; choice = choice }

-- the router that receives from channel x, by its tile, and its input; None where a processor or a
-- bank does (this project's own format)
abbrev pub input_end : Shape → ℕ → Option (ℕ × ℕ)
input_end s x = if is_ejection (channel_at s x).kind then None
    else Some (input_router s x, input_port s x)

-- the router that sends on channel x, by its tile, and its output; None where a processor or a bank
-- does (this project's own format)
abbrev pub output_end : Shape → ℕ → Option (ℕ × ℕ)
output_end s x = if is_injection (channel_at s x).kind then None
    else Some (output_router s x, output_port s x)

-- whether an end is this port of this tile's router
abbrev pub is_port : Option (ℕ × ℕ) → ℕ → ℕ → Bool
is_port None t port = false
is_port (Some end) t port = (end.0 == t) && (end.1 == port)

-- whether an operation brings a flit to input i of tile t's router: a store at a place of the
-- channel there (this project's own format)
abbrev pub brings_flit : Design → WordOp → ℕ → ℕ → Bool
brings_flit d (Store word v) t i =
    nat_lt word (wake_places d) && is_port (input_end d.shape (word / d.depth)) t i
brings_flit d _ t i = false

-- whether an operation returns a credit to output o of tile t's router: a swap at a place of the
-- channel there (this project's own format)
abbrev pub returns_credit : Design → WordOp → ℕ → ℕ → Bool
returns_credit d (Swap word v) t o =
    nat_lt word (wake_places d) && is_port (output_end d.shape (word / d.depth)) t o
returns_credit d _ t o = false

-- whether a router's move empties the latch of input i, or fills it: a put empties that of its
-- input, and a take fills it (Dally and Towles, chapter 16)
abbrev pub empties : Choice → ℕ → Bool
empties (Put k) i = k == i
empties _ i = false

abbrev pub fills : Choice → ℕ → Bool
fills (TakeFrom k) i = k == i
fills _ i = false

-- whether a router's move may enable its put of input i, if there is a flit to put: a take that of
-- its input, and a put, which may free an output, or a credit any (Dally and Towles, chapter 16)
abbrev pub frees_put : Choice → ℕ → Bool
frees_put (TakeFrom k) i = k == i
frees_put (Put k) i = true
frees_put (CreditOf o) i = true
frees_put _ i = false

-- the flit in the latch of input i of tile t's router, if there is one
abbrev pub latch_at : State → ℕ → ℕ → Option ℕ
latch_at s t i = option_and_then (λ tile. latch_of tile.router i) (slice_get s.tiles t)

-- of each router, by its tile, which takes, puts and credits count as awake, by their ports, and
-- which latches count as full (this project's own format)
pub record PortFlags : Type 0 where
  pub takes : ℕ → ℕ → Bool
  pub puts : ℕ → ℕ → Bool
  pub credits : ℕ → ℕ → Bool
  pub full : ℕ → ℕ → Bool

-- no choice is enabled that doesn't count as awake, and no latch holds a flit that doesn't count as
-- full (this project's own format)
pub record OtherPortsSleep (d : Design) (s : State) (f : PortFlags) : Type 0 where
  pub takes : (t i : ℕ) → f.takes t i ≡ false → step d s (of_router t (TakeFrom i)) ≡ None
  pub puts : (t i : ℕ) → f.puts t i ≡ false → step d s (of_router t (Put i)) ≡ None
  pub credits : (t o : ℕ) → f.credits t o ≡ false → step d s (of_router t (CreditOf o)) ≡ None
  pub full : (t i : ℕ) → f.full t i ≡ false → latch_at s t i ≡ None

-- after a move by an operation: the take to which it brings a flit is awake too, and the credit that
-- it returns (this project's own format)
abbrev pub ports_woken : Design → WordOp → PortFlags → PortFlags
ports_woken d op f = record {
  takes = λ t i. f.takes t i || brings_flit d op t i;
  puts = f.puts;
  credits = λ t o. f.credits t o || returns_credit d op t o;
  full = f.full;
}

-- the latches that count as full after a move of tile t's router; one without a flag always does
abbrev pub full_after : ℕ → Choice → (ℕ → ℕ → Bool) → ℕ → ℕ → Bool
full_after t choice full u i =
    (full u i && not ((u == t) && (empties choice i && nat_lt i 32)))
    || ((u == t) && fills choice i)

-- after a move of tile t's router: the take is awake too whose latch it empties, and each put that
-- it may free of a latch that counts as full (this project's own format)
abbrev pub router_moved : ℕ → Choice → PortFlags → PortFlags
router_moved t choice f = record {
  takes = λ u i. f.takes u i || ((u == t) && empties choice i);
  puts = λ u i. f.puts u i
      || ((u == t) && (frees_put choice i && full_after t choice f.full u i));
  credits = f.credits;
  full = full_after t choice f.full;
}
