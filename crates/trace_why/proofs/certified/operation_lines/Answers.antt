use Rattle.std.proofs.Common.{◌+◌, get_or, sym, subst}
use Rattle.std.proofs.lemmas.Option.{slice_get-get_or}
use Rattle.trace_why.specs.Certified.{IsOperationLine}
use Rattle.trace_why.proofs.Telling.{Telling, telling_more}
use Rattle.trace_why.proofs.certified.operation_lines.Goals as goal

pub loop-event-preserved : goal.loop-event-preserved
loop-event-preserved g c =
    let events = c.args.events.now in
    let n = c.loop-event.event-index in
    subst (λ lines. Telling (IsOperationLine c.args.trace.now c.args.to) events (n + 1) lines) (sym c.in_ok-push.ensures.items)
    (telling_more (IsOperationLine c.args.trace.now c.args.to) events n c.loop-event.found.items (get_or events n 0) c.in-Some.line
    c.loop-event.invariant (slice_get-get_or events n 0 c.loop-event-test.true) c.in-Some.ensures)
