use Rattle.trace_answer.proofs.Breaking.{by_is_bad, no_is_bad}
use Rattle.trace_answer.proofs.broken.bad_event.Goals as goal

pub returns-in-Ok-No : goal.returns-in-Ok-No
returns-in-Ok-No g c =
    let f = rw c.in-Ok-No.field-0-is at c.in-Ok-No.ensures.judged in
    no_is_bad c.args.opening.now c.args.events.now c.args.bound c.in-Ok-No.event f

pub returns-in-Ok-NoBy : goal.returns-in-Ok-NoBy
returns-in-Ok-NoBy g c =
    let f = rw c.in-Ok-NoBy.field-0-is at c.in-Ok-NoBy.ensures.judged in
    by_is_bad c.args.opening.now c.args.events.now c.args.bound c.in-Ok-NoBy.event _ f
