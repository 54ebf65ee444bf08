use Rattle.std.proofs.Common.{◌∙◌, ℕ, List, sym, ap, subst, refl, length}
use Rattle.network_traffic.specs.Plans.{plan_table}
use Rattle.network_traffic.specs.Simulated.{IsSimulated}
use Rattle.network_traffic.proofs.Pieces.{written_back}
use Rattle.network_traffic.proofs.course.run_packets.Goals as goal

pub watch_rounds-extent-requires-clause-watch : goal.watch_rounds-extent-requires-clause-watch
watch_rounds-extent-requires-clause-watch g c = c.in_ok-watch.ensures (plan_table c.args.plan.now) refl

pub returns-clause-run : goal.returns-clause-run
returns-clause-run g c =
    let r = c.watch_rounds-extent in
    let size = r.auto.flits ∙ ap length c.deref_mut-2.ensures.value in
    subst (λ (flits : List ℕ). IsSimulated c.args.by (plan_table c.args.plan.now) c.args.plan.now.packets.now c.args.queues.now c.args.groups.now c.args.machine.now
    r.new.machine flits 1000000 r.new.watch r.result)
    (sym (written_back c.in_ok-flits.flits.len r.new.flits c.in_ok-flits.flits.items size c.in_ok-flits.flits.ok.0)) r.ensures

pub watch_rounds-extent-requires-clause-grants : goal.watch_rounds-extent-requires-clause-grants
watch_rounds-extent-requires-clause-grants g c = c.in_ok-grants.ensures.are c.args.machine.now (sym c.channels-2.ensures.value)
