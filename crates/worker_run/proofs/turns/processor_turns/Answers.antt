use Rattle.worker_run.proofs.Going.{by_processor}
use Rattle.worker_run.proofs.turns.processor_turns.Goals as goal

pub returns-clause-leads : goal.returns-clause-leads
returns-clause-leads g c = λ ports.
    by_processor (g.G.Gate.stops c.args.gate.now c.args.worker) ports c.args.tile _ _ _ _ _ _ _ _ _ _ _ _ c.attempt_awake.ensures.tried c.attempt_awake-2.ensures.tried
    c.attempt_awake-3.ensures.tried c.attempt_awake-4.ensures.tried c.attempt.ensures.tried
