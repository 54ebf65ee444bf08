use Rattle.trace_why.proofs.Listing.{later_over}
use Rattle.trace_why.proofs.answers.last_over.Goals as goal

pub loop-i-preserved : goal.loop-i-preserved
loop-i-preserved c =
    later_over c.args.events.now c.args.n c.loop-i.i c.args.address c.loop-i.last c.answered_on.result c.later-last.result c.loop-i-test.true
    c.loop-i.invariant c.answered_on.ensures c.later-last.ensures
