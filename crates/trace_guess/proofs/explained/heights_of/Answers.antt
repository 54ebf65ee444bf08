use Rattle.std.proofs.Common.{◌<◌, length, arith}
use Rattle.std.proofs.lemmas.Option.{slice_get-get_or}
use Rattle.trace_guess.proofs.Explaining.{below_more, heights_more, size_more}
use Rattle.trace_guess.proofs.explained.heights_of.Goals as goal

pub loop-k-preserved : goal.loop-k-preserved
loop-k-preserved g c =
    let l : c.loop-k.k < length c.args.events.now = omega arith in
    record {
      size = size_more c.loop-k.heights.items c.push.new.self.items c.loop-k.height c.loop-k.k c.loop-k.invariant.size
          c.in_ok-push.ensures.items;
      heights = heights_more c.args.events.now c.args.order.now c.args.told.now c.loop-k.heights.items
          c.push.new.self.items c.loop-k.k c.loop-k.height c.loop-k.invariant.size c.in_ok-push.ensures.items
          c.loop-k.invariant.below c.loop-k.invariant.heights;
      below = below_more c.args.events.now c.args.order.now c.args.told.now c.loop-k.k c.loop-k.height c.in-Some.next _
          (slice_get-get_or c.args.events.now c.loop-k.k _ l) c.in-Some.ensures.0 c.in-Some.ensures.1
          c.loop-k.invariant.below;
    }
