use Rattle.std.proofs.Common.{◌≡◌, ℕ, ◌+◌, ◌*◌, rules, subst, sym, ap, arith}
use Rattle.std.specs.Prelude.{false}
use Rattle.torus.specs.declared.step.Choice.{Choice}
use Rattle.fabric_rule.specs.Known.{enabled}
use Rattle.worker_run.specs.Going.{LeadsSeats, at_place}
use Rattle.worker_run.specs.RouterTurns.{start_of}
use Rattle.worker_run.proofs.Going.{stays}
use Rattle.worker_run.proofs.Skips.{one_left_out}
use Rattle.worker_run.proofs.router_turns.leave_out_ports.Goals as goal

pub loop-port-init : goal.loop-port-init
loop-port-init g c = stays (g.G.Gate.stops c.args.gate.now c.args.worker) c.args.ports c.args.tile (start_of c.args.ports c.args.kind + c.args.from)
    (start_of c.args.ports c.args.kind + c.args.from) c.args.run.now c.args.seat.now (omega arith)

pub leave_out-requires-clause-idle : goal.leave_out-requires-clause-idle
leave_out-requires-clause-idle g c =
    let idle : enabled c.args.seat.now.load c.args.seat.now.run (record { agent = 3 * c.args.tile + 1; choice = c.choice.result }) ≡ false =
    subst (λ (x : Choice). enabled c.args.seat.now.load c.args.seat.now.run (record { agent = 3 * c.args.tile + 1; choice = x }) ≡ false)
    (sym c.choice.ensures) (c.requires.idle c.loop-port.port (omega arith) (omega arith)) in
    search (rules, idle)

pub loop-port-preserved : goal.loop-port-preserved
loop-port-preserved g c = one_left_out (g.G.Gate.stops c.args.gate.now c.args.worker) c.args.ports c.args.tile c.args.kind c.loop-port.port _ _ _ _ _ _ _ _
    c.loop-port.invariant (omega arith) c.choice.ensures c.leave_out.ensures

pub returns : goal.returns
returns g c =
    let within = c.requires.within.0 in
    let all : c.loop-port.port ≡ c.args.to = omega (arith, within) in
    subst (λ (n : ℕ). LeadsSeats (g.G.Gate.stops c.args.gate.now c.args.worker) c.args.ports c.args.run.now c.args.seat.now
    (at_place c.args.tile (start_of c.args.ports c.args.kind + c.args.from)) c.loop-port.run c.args.seat.now
    (at_place c.args.tile (start_of c.args.ports c.args.kind + n))) all c.loop-port.invariant
