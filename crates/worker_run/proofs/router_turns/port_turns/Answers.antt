use Rattle.std.proofs.Common.{◌≡◌, ℕ, ◌+◌, subst, arith}
use Rattle.worker_run.specs.Going.{LeadsSeats, at_place}
use Rattle.worker_run.specs.RouterTurns.{start_of}
use Rattle.worker_run.proofs.Skips.{one_left_out}
use Rattle.worker_run.proofs.router_turns.port_turns.Goals as goal

pub returns-then-port-ports-clause-leads : goal.returns-then-port-ports-clause-leads
returns-then-port-ports-clause-leads g c =
    let w = c.next_port-port.ensures.within in
    let all : c.next_port-port.result ≡ c.args.ports = omega (arith, w.1) in
    subst (λ (n : ℕ). LeadsSeats (g.G.Gate.stops c.args.gate.now c.args.worker) c.args.ports c.args.run.now c.args.seat.now
    (at_place c.args.tile (start_of c.args.ports c.args.kind + c.args.from)) c.leave_out_ports.new.run c.args.seat.now
    (at_place c.args.tile (start_of c.args.ports c.args.kind + n))) all c.leave_out_ports.ensures

pub returns-clause-leads : goal.returns-clause-leads
returns-clause-leads g c = one_left_out (g.G.Gate.stops c.args.gate.now c.args.worker) c.args.ports c.args.tile c.args.kind c.next_port-port.result _ _ _ _ _ _ _ _
    c.leave_out_ports.ensures (omega arith) c.choice.ensures c.attempt.ensures.tried
