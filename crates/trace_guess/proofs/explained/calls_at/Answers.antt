use Rattle.std.proofs.Common.{◌<◌, length, arith, slice_get, ◌∙◌, ap}
use Rattle.std.proofs.lemmas.Option.{slice_get-get_or}
use Rattle.trace_guess.proofs.Explaining.{issued_more, size_more}
use Rattle.trace_guess.proofs.explained.calls_at.Goals as goal

pub loop-x-preserved : goal.loop-x-preserved
loop-x-preserved g c =
    let l : c.loop-x.x < length c.args.issues.now = omega arith in
    record {
      size = size_more c.loop-x.order.items c.push.new.self.items c.in-Some.call c.loop-x.x c.loop-x.invariant.size
          c.in_ok-push.ensures.items;
      issued = issued_more c.args.events.now c.args.issues.now c.loop-x.order.items c.push.new.self.items _ c.in-Some.call
          (ap (slice_get c.args.issues.now) c.loop-x.invariant.size ∙ slice_get-get_or c.args.issues.now c.loop-x.x 0 l)
          c.in-Some.ensures c.in_ok-push.ensures.items c.loop-x.invariant.issued;
    }
