use Rattle.std.proofs.Common.{◌≡◌, ◌+◌, ◌*◌, arith}
use Rattle.worker_run.proofs.Going.{leads_on}
use Rattle.worker_run.proofs.Skips.{leads_to}
use Rattle.worker_run.proofs.turns.tile_turns.Goals as goal

pub returns-clause-leads : goal.returns-clause-leads
returns-clause-leads g c =
    let two : 5 + c.args.ports + c.args.ports ≡ 5 + 2 * c.args.ports = omega arith in
    let three : 5 + 2 * c.args.ports + c.args.ports ≡ 5 + 3 * c.args.ports = omega arith in
    leads_on _ _ _ _ _ _ _ _ _ _ _ (c.processor_turns.ensures.leads c.args.ports)
    (leads_on _ _ _ _ _ _ _ _ _ _ _ c.router_turns.ensures.leads
    (leads_on _ _ _ _ _ _ _ _ _ _ _ (leads_to _ _ _ _ _ _ _ _ _ _ two c.router_turns-2.ensures.leads)
    (leads_on _ _ _ _ _ _ _ _ _ _ _ (leads_to _ _ _ _ _ _ _ _ _ _ three c.router_turns-3.ensures.leads) (c.bank_turns.ensures.leads c.args.ports))))
