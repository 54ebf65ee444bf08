use Rattle.std.proofs.Common.{◌<◌, ◌∙◌, ap, arith, length, subst, sym}
use Rattle.std.proofs.lemmas.List.{length-map}
use Rattle.std.proofs.lemmas.List.FromFn.{length-map-range_with_len}
use Rattle.packet.proofs.Folds.{length-replies}
use Rattle.packet.specs.declared.kinds.Reply.TheVariants.{Ok as Stored}
use Rattle.trace_laws.specs.declared.event.Call.{Call}
use Rattle.trace_laws.specs.Orders.{operations_of}
use Rattle.trace_text.specs.Traced.{opening_of}
use Rattle.trace_answer.specs.Numbers.{issues_of, NeverFalls}
use Rattle.trace_answer.specs.Services.{service_place, service_of}
use Rattle.trace_answer.proofs.Growing.{image_more, service_is}
use Rattle.trace_answer.proofs.Numbered.{waits_count}
use Rattle.trace_answer.proofs.Waits.{wait_most}
use Rattle.trace_answer.proofs.Waiting.{waits_rise}
use Rattle.trace_answer.proofs.services.services_with.Goals as goal

pub bounds-waits-i : goal.bounds-waits-i
bounds-waits-i g c = omega (arith, ap length c.requires.waits, waits_count c.args.times.now c.args.order.now)

pub overflow_add-number : goal.overflow_add-number
overflow_add-number g c =
    omega (arith, wait_most c.args.times.now c.args.order.now c.args.waits.now c.loop-i.i (omega arith) c.requires.low c.requires.waits, c.requires.few)

pub overflow_add-number-in-loop-i : goal.overflow_add-number-in-loop-i
overflow_add-number-in-loop-i g c =
    omega (arith, wait_most c.args.times.now c.args.order.now c.args.waits.now c.loop-i.i (omega arith) c.requires.low c.requires.waits, c.requires.few)

pub bounds-told-i : goal.bounds-told-i
bounds-told-i g c =
    omega (
      arith,
      ap length c.requires.replies,
      length-replies (operations_of c.args.order.now) (opening_of c.args.trace.now),
      length-map c.args.order.now (λ (d : Call). d.operation),
    )

pub bounds-places-i : goal.bounds-places-i
bounds-places-i g c =
    omega (
      arith,
      ap length c.requires.places,
      length-map-range_with_len (service_place c.args.tiles c.args.order.now) 0 (length c.args.order.now),
    )

pub service-made-requires-clause-rising : goal.service-made-requires-clause-rising
service-made-requires-clause-rising g c =
    subst NeverFalls (sym c.requires.waits) (waits_rise 0 (issues_of c.args.times.now c.args.order.now))

pub service-made-requires-clause-few : goal.service-made-requires-clause-few
service-made-requires-clause-few g c =
    omega (arith, ap length c.requires.waits, waits_count c.args.times.now c.args.order.now, c.requires.few)

pub loop-i-preserved : goal.loop-i-preserved
loop-i-preserved g c =
    let low : c.loop-i.i < length c.args.order.now = omega arith in
    image_more (service_of c.args.trace.now c.args.tiles c.args.times.now c.args.order.now) c.loop-i.services.items c.push.new.self.items c.loop-i.i
    c.service-made.result
    (c.service-made.ensures
    ∙ service_is c.args.trace.now c.args.tiles c.args.times.now c.args.order.now c.args.told.now c.args.places.now c.args.waits.now c.loop-i.i Stored low
    c.requires.replies c.requires.places c.requires.waits)
    c.in_ok-push.ensures.items c.loop-i.invariant
