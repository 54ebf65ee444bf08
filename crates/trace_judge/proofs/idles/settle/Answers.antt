use Rattle.std.proofs.Common.{◌<◌, length, arith}
use Rattle.std.proofs.lemmas.Option.{slice_get-get_or}
use Rattle.trace_judge.specs.Idles.{settled}
use Rattle.trace_judge.proofs.Calm.{settled_more, settled_all}
use Rattle.trace_judge.proofs.idles.settle.Goals as goal

pub calm-calmer-requires : goal.calm-calmer-requires
calm-calmer-requires c =
    let l : c.loop-i.i < length c.args.idles.now = omega arith in
    c.requires _ (c.loop-i.i, slice_get-get_or c.args.idles.now c.loop-i.i _ l)

pub loop-i-preserved : goal.loop-i-preserved
loop-i-preserved c =
    let l : c.loop-i.i < length c.args.idles.now = omega arith in
    settled_more c.args.idles.now c.loop-i.i _ c.loop-i.calmer c.calm-calmer.result (settled c.args.idles.now c.args.config)
    (slice_get-get_or c.args.idles.now c.loop-i.i _ l) c.calm-calmer.ensures c.loop-i.invariant

pub returns : goal.returns
returns c = settled_all c.args.idles.now c.loop-i.i c.loop-i.calmer (settled c.args.idles.now c.args.config) (omega arith) c.loop-i.invariant
