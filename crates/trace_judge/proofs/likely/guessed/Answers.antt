use Rattle.std.proofs.Common.{◌<◌, length, arith}
use Rattle.trace_laws.proofs.Lists.{within_length}
use Rattle.trace_judge.proofs.Guessing.{likely_more}
use Rattle.trace_judge.proofs.likely.guessed.Goals as goal

pub loop-k-preserved : goal.loop-k-preserved
loop-k-preserved g c =
    let l : c.loop-k.k < length c.args.events.now = omega arith in
    let at = within_length c.args.events.now c.loop-k.k l in
    likely_more c.args.events.now _ _ _ c.loop-k.k at.0 at.1 c.in_ok-keep.ensures c.in_ok-answer.ensures
    c.loop-k.invariant
