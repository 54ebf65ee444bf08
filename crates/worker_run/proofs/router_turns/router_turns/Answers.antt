use Rattle.std.proofs.Common.{◌≡◌, ℕ, ◌+◌, subst, arith}
use Rattle.worker_run.specs.Going.{LeadsSeats, at_place}
use Rattle.worker_run.specs.RouterTurns.{start_of}
use Rattle.worker_run.proofs.Going.{leads_on, stays}
use Rattle.worker_run.proofs.router_turns.router_turns.Goals as goal

pub loop-from-init : goal.loop-from-init
loop-from-init g c = record {
  own = c.requires.own;
  within = omega arith;
  leads = stays (g.G.Gate.stops c.args.gate.now c.args.worker) c.args.ports c.args.tile (start_of c.args.ports c.args.kind)
      (start_of c.args.ports c.args.kind + 0) c.args.run.now c.args.seat.now (omega arith);
}

pub loop-from-preserved : goal.loop-from-preserved
loop-from-preserved g c = record {
  own = c.port_turns-from.ensures.own;
  within = c.port_turns-from.ensures.within.1;
  leads = leads_on _ _ _ _ _ _ _ _ _ _ _ c.loop-from.invariant.leads c.port_turns-from.ensures.leads;
}

pub returns-clause-leads : goal.returns-clause-leads
returns-clause-leads g c =
    let within = c.loop-from.invariant.within in
    let all : c.loop-from.from ≡ c.args.ports = omega (arith, within) in
    subst (λ (n : ℕ). LeadsSeats (g.G.Gate.stops c.args.gate.now c.args.worker) c.args.ports c.args.run.now c.args.seat.now
    (at_place c.args.tile (start_of c.args.ports c.args.kind)) c.loop-from.run c.loop-from.seat (at_place c.args.tile (start_of c.args.ports c.args.kind + n)))
    all c.loop-from.invariant.leads
