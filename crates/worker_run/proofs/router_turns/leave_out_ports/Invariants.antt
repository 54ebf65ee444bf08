use Rattle.std.proofs.Common.{◌+◌}
use Rattle.worker_run.specs.Going.{LeadsSeats, at_place}
use Rattle.worker_run.specs.RouterTurns.{start_of}
use Rattle.worker_run.proofs.router_turns.leave_out_ports.Given as goal

-- the ports so far are left out
abbrev pub invariant-loop-port : goal.invariant-loop-port
invariant-loop-port g l = LeadsSeats (g.G.Gate.stops l.gate l.worker) l.ports l.initial.run l.seat (at_place l.tile (start_of l.ports l.kind + l.from)) l.run l.seat
    (at_place l.tile (start_of l.ports l.kind + l.port))
