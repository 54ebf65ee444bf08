-- Accepted loads, and the events of their runs.
use Rattle.std.specs.Prelude.{ℕ, List, [], length, take, Option, Some, None, slice_get}
use Rattle.torus.specs.declared.step.Step.{Step}
use Rattle.one_order.specs.Events.{Event}
pub use Rattle.one_order.specs.Load.{IsAcceptedLoad}
use Rattle.one_order.specs.Flight.{Flight, Move, flight_event}
use Rattle.core_laws.specs.Core.{Load, State, design_of, after, records_of, show}
use Rattle.core_laws.specs.Moves.{move_of}

-- the state after the first k steps
abbrev pub state_after : Load → List Step → ℕ → State
state_after l steps k = after l (take k steps)

-- the machine without its network and packets
abbrev pub without_packets : ℕ → State → Flight
without_packets words s = record {
  processors = records_of s;
  entries = (show words s).entries;
  memory = (show words s).memory;
  asked = [];
  told = [];
}

-- what the step after the first k is of the operations
abbrev pub move_by : Load → State → Option Step → Option Move
move_by l s None = None
move_by l s (Some step) = move_of (design_of l) s step

-- the event of the step after the first k (Herlihy and Wing)
abbrev pub event_of : Load → List Step → ℕ → Event
event_of l steps k = flight_event (without_packets (length l.opening) (state_after l steps k))
    (move_by l (state_after l steps k) (slice_get steps k))
