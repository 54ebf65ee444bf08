use Rattle.std.proofs.Common.{◌<◌, length, arith}
use Rattle.std.proofs.lemmas.Option.{slice_get-get_or}
use Rattle.trace_watch.proofs.LowLoops.{seen_lowered, seen_none, seen_noted}
use Rattle.trace_watch.proofs.lowering.lowered_seen.Goals as goal

pub loop-i-init : goal.loop-i-init
loop-i-init g c = seen_none c.args.calls.now c.args.seen.now c.in_ok-lowered.lowered.items c.in_ok-lowered.ensures.items

pub loop-i-preserved : goal.loop-i-preserved
loop-i-preserved g c =
    let l : c.loop-i.i < length c.args.seen.now = omega arith in
    seen_noted c.args.calls.now c.args.seen.now c.loop-i.i c.loop-i.lowered.items c.note_glimpse.new.lowered.items _
    (slice_get-get_or c.args.seen.now c.loop-i.i _ l) c.in_ok-note_glimpse.ensures c.loop-i.invariant

pub returns : goal.returns
returns g c = seen_lowered c.args.calls.now c.args.seen.now c.loop-i.i c.loop-i.lowered.items (omega arith) c.loop-i.invariant
