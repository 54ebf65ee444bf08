use Rattle.std.proofs.Common.{◌<◌, length, arith}
use Rattle.std.proofs.lemmas.Option.{slice_get-get_or}
use Rattle.trace_watch.proofs.Alone.{telling_none, telling_more, telling_all}
use Rattle.trace_watch.proofs.matching.alone_of_each.Goals as goal

pub loop-i-init : goal.loop-i-init
loop-i-init g c =
    telling_none c.args.calls.now c.args.newest.now c.in_ok-alone.alone.items c.in_ok-alone.ensures.items

pub loop-i-preserved : goal.loop-i-preserved
loop-i-preserved g c =
    let l : c.loop-i.i < length c.args.newest.now = omega arith in
    telling_more c.args.calls.now c.args.newest.now c.loop-i.i c.loop-i.alone.items c.push.new.self.items _ _
    (slice_get-get_or c.args.newest.now c.loop-i.i _ l) c.is_alone.ensures.yes c.is_alone.ensures.no
    c.in_ok-push.ensures.items c.loop-i.invariant

pub returns : goal.returns
returns g c =
    telling_all c.args.calls.now c.args.newest.now c.loop-i.i c.loop-i.alone.items (omega arith) c.loop-i.invariant
