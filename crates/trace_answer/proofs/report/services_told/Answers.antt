use Rattle.std.proofs.Common.{◌<◌, List, ℕ, length, subst, sym}
use Rattle.trace_answer.proofs.Given.{are_low, inside}
use Rattle.trace_answer.proofs.report.services_told.Goals as goal

pub served-requires : goal.served-requires
served-requires g c =
    λ x d h. subst (λ (ws : List ℕ). d.operation.address < length ws) (sym c.in_ok-words.ensures)
    (inside c.args.trace.now c.args.order.now c.requires.whole c.requires.explains x d h)

pub waits_of-requires : goal.waits_of-requires
waits_of-requires g c = (are_low c.args.trace.now c.args.times.now c.args.order.now c.requires.fit c.requires.told).issued

pub services_with-requires-clause-low : goal.services_with-requires-clause-low
services_with-requires-clause-low g c = are_low c.args.trace.now c.args.times.now c.args.order.now c.requires.fit c.requires.told
