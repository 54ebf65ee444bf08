use Rattle.network_answer.specs.Causes.{dependency_cause}
use Rattle.network_answer.proofs.Mapped.{one_more}
use Rattle.network_answer.proofs.causes.dependency_causes.Goals as goal

pub loop-k-preserved : goal.loop-k-preserved
loop-k-preserved g c =
    one_more (dependency_cause c.args.edges.now) c.loop-k.causes.items _ c.loop-k.k c.dependency_cause.result c.loop-k.invariant c.in_ok-push.ensures.items
    c.dependency_cause.ensures
