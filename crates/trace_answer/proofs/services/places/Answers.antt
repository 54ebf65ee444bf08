use Rattle.std.proofs.Common.{◌<◌, ◌≡◌, ◌∙◌, arith, length, length-set}
use Rattle.trace_answer.specs.Services.{service_place}
use Rattle.trace_answer.proofs.Growing.{count_step, image_more, place_low, place_read}
use Rattle.trace_answer.proofs.services.places.Goals as goal

pub overflow_add-place : goal.overflow_add-place
overflow_add-place g c =
    let is = place_read c.args.tiles c.args.order.now c.loop-i.counts.items c.loop-i.i c.index-place.result.now c.requires.some c.loop-i.invariant.size
    c.index-place.ensures c.loop-i.invariant.counts in
    omega (arith, is, place_low c.args.tiles c.args.order.now c.loop-i.i, c.requires.few)

pub loop-i-preserved : goal.loop-i-preserved
loop-i-preserved g c =
    let low : c.loop-i.i < length c.args.order.now = omega arith in
    let is : c.index-place.result.now ≡ service_place c.args.tiles c.args.order.now c.loop-i.i =
    place_read c.args.tiles c.args.order.now c.loop-i.counts.items c.loop-i.i c.index-place.result.now c.requires.some c.loop-i.invariant.size
    c.index-place.ensures c.loop-i.invariant.counts in
    record {
      places = image_more (service_place c.args.tiles c.args.order.now) c.loop-i.places.items c.push.new.self.items c.loop-i.i c.index-place.result.now is
          c.in_ok-push.ensures.items c.loop-i.invariant.places;
      size = length-set _ _ _ ∙ c.loop-i.invariant.size;
      counts = count_step c.args.tiles c.args.order.now c.loop-i.counts.items c.loop-i.i c.index-place.result.now c.requires.some low
          c.loop-i.invariant.size is c.loop-i.invariant.counts;
    }
