use Rattle.model_values.proofs.Forcing.{forced_seen}
use Rattle.model_values.proofs.forced.forced_edges.Goals as goal

pub loop-k-preserved : goal.loop-k-preserved
loop-k-preserved g c = forced_seen c.args.question.now c.is_right-right.result _ c.deref.result.now c.loop-k.edges.items c.push_if.new.edges.items
    c.deref.ensures.value c.in_ok-push_if.ensures c.loop-k.invariant c.is_right-right.ensures
