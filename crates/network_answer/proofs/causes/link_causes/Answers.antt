use Rattle.network_answer.specs.Causes.{link_cause}
use Rattle.network_answer.proofs.Mapped.{one_more}
use Rattle.network_answer.proofs.causes.link_causes.Goals as goal

pub loop-k-preserved : goal.loop-k-preserved
loop-k-preserved g c =
    one_more (link_cause c.args.links.now) c.loop-k.causes.items _ c.loop-k.k c.link_cause.result c.loop-k.invariant c.in_ok-push.ensures.items
    c.link_cause.ensures
