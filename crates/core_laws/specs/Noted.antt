-- What is noted beside each state of a run.
use Rattle.std.specs.Prelude.{ℕ, zero, suc, List, [], length, replicate, Option, Some, None, slice_get}
use Rattle.torus.specs.Shape.{tiles_of}
use Rattle.torus.specs.declared.step.Step.{Step}
use Rattle.packet.specs.declared.kinds.Request.{Request}
use Rattle.packet.specs.declared.kinds.Response.{Response}
use Rattle.one_order.specs.Events.{push_at}
use Rattle.one_order.specs.ProcessorRecord.{request_of}
use Rattle.one_order.specs.Flight.{Flight, Move, Sends, Takes, moved_by}
use Rattle.wormhole.specs.State.{NetState, empty}
use Rattle.wormhole.specs.Events.{NetEvent, network_after}
use Rattle.tile.specs.Tile.{Design}
use Rattle.core_laws.specs.Core.{Load, State, design_of, records_of, show}
use Rattle.core_laws.specs.Network.{net_of, network_event}
use Rattle.core_laws.specs.Runs.{state_after, move_by}

-- what is noted: the network with its packets; the requests issued and not served, and the
-- responses made and not taken, each in the order in which they were sent; and of each processor
-- the requests of its issues and the responses of its answers, in their order
pub record Noted : Type 0 where
  pub net : NetState
  pub asked : List Request
  pub told : List Response
  pub requests : List (List Request)
  pub taken : List (List Response)

-- the machine without its network, with the packets that are noted
abbrev pub flight_of : ℕ → State → Noted → Flight
flight_of words s g = record {
  processors = records_of s;
  entries = (show words s).entries;
  memory = (show words s).memory;
  asked = g.asked;
  told = g.told;
}

-- the requests of the issues after a move: each with the tag under which its operation is issued
abbrev pub requests_noted : ℕ → Option Move → List (List Request) → List (List Request)
requests_noted tiles (Some (Sends t tag o)) requests = push_at requests t (request_of tiles t tag o)
requests_noted tiles _ requests = requests

-- the responses of the answers after a move
abbrev pub taken_noted : Option Move → List (List Response) → List (List Response)
taken_noted (Some (Takes r)) taken = push_at taken r.destination r
taken_noted _ taken = taken

-- what is noted after a step that is this move, or none, of the operations, and this event, or
-- none, of the network
abbrev pub noted_by : Design → State → Noted → Option Move → Option NetEvent → Noted
noted_by d s g m e = record {
  net = network_after (net_of d) g.net e;
  asked = (moved_by (tiles_of d.shape) (flight_of d.words s g) m).asked;
  told = (moved_by (tiles_of d.shape) (flight_of d.words s g) m).told;
  requests = requests_noted (tiles_of d.shape) m g.requests;
  taken = taken_noted m g.taken;
}

-- the event of the step after the first k
abbrev pub event_by : Load → State → Option Step → Option NetEvent
event_by l s None = None
event_by l s (Some step) = network_event (design_of l) s step

-- what is noted before any step: nothing is on its way, issued or answered
abbrev pub first_noted : Load → Noted
first_noted l = record {
  net = empty (net_of (design_of l));
  asked = [];
  told = [];
  requests = replicate (tiles_of l.shape) [];
  taken = replicate (tiles_of l.shape) [];
}

-- what is noted after the first k steps
abbrev pub noted : Load → List Step → ℕ → Noted
noted l steps zero = first_noted l
noted l steps (suc k) = noted_by (design_of l) (state_after l steps k) (noted l steps k)
    (move_by l (state_after l steps k) (slice_get steps k))
    (event_by l (state_after l steps k) (slice_get steps k))

-- the machine without its network after the first k steps, with the packets on their way
abbrev pub flight_after : Load → List Step → ℕ → Flight
flight_after l steps k = flight_of (length l.opening) (state_after l steps k) (noted l steps k)

-- the move of the step after the first k
abbrev pub move_after : Load → List Step → ℕ → Option Move
move_after l steps k = move_by l (state_after l steps k) (slice_get steps k)
