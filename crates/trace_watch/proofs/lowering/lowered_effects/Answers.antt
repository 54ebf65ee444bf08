use Rattle.std.proofs.Common.{◌<◌, length, arith}
use Rattle.std.proofs.lemmas.Option.{slice_get-get_or}
use Rattle.trace_watch.proofs.LowLoops.{lowered_one}
use Rattle.trace_watch.proofs.lowering.lowered_effects.Goals as goal

pub loop-i-preserved : goal.loop-i-preserved
loop-i-preserved g c =
    let l : c.loop-i.i < length c.args.effects.now = omega arith in
    lowered_one c.args.calls.now c.args.effects.now c.loop-i.lowered.items c.push.new.self.items c.loop-i.i _
    c.lowered_effect.result (slice_get-get_or c.args.effects.now c.loop-i.i _ l) c.loop-i.invariant
    c.lowered_effect.ensures.op c.lowered_effect.ensures.reply c.lowered_effect.ensures.bound c.in_ok-push.ensures.items
