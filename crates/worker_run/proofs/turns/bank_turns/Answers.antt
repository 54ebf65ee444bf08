use Rattle.worker_run.proofs.Going.{by_bank}
use Rattle.worker_run.proofs.turns.bank_turns.Goals as goal

pub returns-clause-leads : goal.returns-clause-leads
returns-clause-leads g c = λ ports.
    by_bank (g.G.Gate.stops c.args.gate.now c.args.worker) ports c.args.tile _ _ _ _ _ _ _ _ c.attempt_awake.ensures.tried c.attempt_awake-2.ensures.tried
    c.attempt_awake-3.ensures.tried
