use Rattle.network_rounds.proofs.Groups.{parts_next}
use Rattle.network_rounds.proofs.choices.parts_of.Goals as goal

pub loop-router-preserved : goal.loop-router-preserved
loop-router-preserved g c =
    parts_next c.loop-router.router c.loop-router.parts.items c.push-in-loop-router.new.self.items c.loop-router.invariant c.in_ok-push-3.ensures.items
