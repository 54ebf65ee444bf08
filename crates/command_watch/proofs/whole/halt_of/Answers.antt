use Rattle.std.proofs.Common.{◌<◌, length, arith, take}
use Rattle.command_watch.proofs.WholeTraces.{event_at, event_fits, event_refused, event_taken, none_seen}
use Rattle.command_watch.proofs.whole.halt_of.Goals as goal

pub loop-place-preserved : goal.loop-place-preserved
loop-place-preserved g c =
    let low : c.loop-place.place < length c.args.events.now = omega arith in
    let taken = event_taken c.args.opening.now c.args.events.now c.loop-place.place _ c.event.new.self
    (event_at c.args.events.now c.loop-place.place _ low)
    (rw c.in-Ok-Linearizable.field-0-is at c.in-Ok-Linearizable.ensures.seen c.args.opening.now (take c.loop-place.place c.args.events.now)
    c.loop-place.invariant.tracked) in
    record { tracked = taken.0; good = taken.1 }

pub returns-in-Ok-NotLinearizable : goal.returns-in-Ok-NotLinearizable
returns-in-Ok-NotLinearizable g c =
    let low : c.loop-place.place < length c.args.events.now = omega arith in
    event_refused c.args.opening.now c.args.events.now c.loop-place.place _ c.event.new.self
    (event_at c.args.events.now c.loop-place.place _ low)
    (rw c.in-Ok-NotLinearizable.field-0-is at c.in-Ok-NotLinearizable.ensures.seen c.args.opening.now (take c.loop-place.place c.args.events.now)
    c.loop-place.invariant.tracked)

pub returns-in-Ok-NoTrace : goal.returns-in-Ok-NoTrace
returns-in-Ok-NoTrace g c =
    let low : c.loop-place.place < length c.args.events.now = omega arith in
    absurd (event_fits c.args.opening.now c.args.events.now c.requires c.loop-place.place _ c.event.new.self
    (event_at c.args.events.now c.loop-place.place _ low)
    (rw c.in-Ok-NoTrace.field-0-is at c.in-Ok-NoTrace.ensures.seen c.args.opening.now (take c.loop-place.place c.args.events.now)
    c.loop-place.invariant.tracked))

pub returns-in-Err-Configurations : goal.returns-in-Err-Configurations
returns-in-Err-Configurations g c =
    let low : c.loop-place.place < length c.args.events.now = omega arith in
    record {
      event = _;
      there = event_at c.args.events.now c.loop-place.place _ low;
      many = rw c.in-Err-Configurations.field-0-is at c.in-Err-Configurations.ensures.full c.args.opening.now
          (take c.loop-place.place c.args.events.now) c.loop-place.invariant.tracked;
    }
