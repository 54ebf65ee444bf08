use Rattle.trace_judge.proofs.Guessing.{likely_found}
use Rattle.trace_judge.proofs.explain.try_likely.Goals as goal

pub returns-in-Ok : goal.returns-in-Ok
returns-in-Ok g c =
    likely_found c.args.opening.now c.args.events.now c.in_ok-other.other.items c.deref-2.result.now c.in-Ok.order
    c.requires c.in_ok-other.ensures c.deref-2.ensures.value c.in-Ok.ensures.decided
