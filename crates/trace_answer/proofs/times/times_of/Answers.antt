use Rattle.std.proofs.Common.{length, ◌+◌, ◌<◌, ◌≡◌, arith, sym, subst, ℕ}
use Rattle.std.specs.Prelude.{slice_index_or}
use Rattle.std.proofs.lemmas.Option.{slice_get-get_or}
use Rattle.packet.specs.declared.kinds.Op.TheVariants.{Load}
use Rattle.trace_laws.specs.declared.event.Event.{Event}
use Rattle.trace_laws.specs.declared.event.Event.TheVariants.{Issue}
use Rattle.trace_answer.specs.Times.{AreTimesBelow, times_noted}
use Rattle.trace_answer.proofs.Noting.{event_noted, none_noted}
use Rattle.trace_answer.proofs.times.times_of.Goals as goal

pub loop-i-init : goal.loop-i-init
loop-i-init g c =
    subst (AreTimesBelow c.args.events.now 0 c.args.count) (sym (c.in_ok-times.ensures.items_if_clones_equal (λ y h. h)))
    (none_noted c.args.events.now c.args.count)

abbrev none : Event
none = Issue (record { id = 0; operation = record { address = 0; op = Load } })

pub loop-i-preserved : goal.loop-i-preserved
loop-i-preserved g c =
    let low : c.loop-i.i < length c.args.events.now = omega arith in
    let e : c.note.new.times.items ≡ times_noted c.loop-i.times.items c.loop-i.i (slice_index_or c.args.events.now c.loop-i.i none) = c.note.ensures in
    subst (AreTimesBelow c.args.events.now (c.loop-i.i + 1) c.args.count) (sym e)
    (event_noted c.requires.trace.0 c.args.events.now c.loop-i.i c.args.count c.loop-i.times.items (slice_index_or c.args.events.now c.loop-i.i none)
    c.requires.trace.1 c.requires.counted (slice_get-get_or c.args.events.now c.loop-i.i none low) c.loop-i.invariant)

pub returns : goal.returns
returns g c =
    let whole : c.loop-i.i ≡ length c.args.events.now = omega arith in
    subst (λ (k : ℕ). AreTimesBelow c.args.events.now k c.args.count c.loop-i.times.items) whole c.loop-i.invariant
