use Rattle.std.proofs.Common.{◌+◌, ◌-◌, ◌≤◌}
use Rattle.fabric.specs.Seats.{IsSeatOf}
use Rattle.worker_run.specs.Going.{LeadsSeats, at_place}
use Rattle.worker_run.specs.RouterTurns.{start_of}
use Rattle.worker_run.proofs.router_turns.router_turns.Given as goal

-- the ports so far are attempted or left out
abbrev pub invariant-loop-from : goal.invariant-loop-from
invariant-loop-from g l = record {
  own : IsSeatOf l.fabric l.seat;
  within : l.from ≤ l.ports;
  leads : LeadsSeats (g.G.Gate.stops l.gate l.worker) l.ports l.fn.run l.fn.seat (at_place l.tile (start_of l.ports l.kind)) l.run l.seat
      (at_place l.tile (start_of l.ports l.kind + l.from));
}

abbrev pub decreases-loop-from : goal.decreases-loop-from
decreases-loop-from g l = l.ports - l.from
