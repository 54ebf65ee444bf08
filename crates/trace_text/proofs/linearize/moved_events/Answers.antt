use Rattle.std.proofs.Common.{◌<◌, ◌≡◌, ◌∙◌, ap, length, arith, map}
use Rattle.std.proofs.lemmas.List.{take_all}
use Rattle.trace_text.specs.Findings.{place_of_address}
use Rattle.trace_text.specs.Renumbered.{moved_event}
use Rattle.trace_text.proofs.Mapped.{mapped_more}
use Rattle.trace_text.proofs.linearize.moved_events.Goals as goal

pub loop-i-preserved : goal.loop-i-preserved
loop-i-preserved g c =
    let low : c.loop-i.i < length c.args.events.now = omega arith in
    mapped_more (moved_event (place_of_address c.args.places.now.entries)) c.args.events.now c.loop-i.i _ c.loop-i.all.items c.moved.result c.push.new.self.items
    low c.moved.ensures c.loop-i.invariant c.in_ok-push.ensures.items

pub returns : goal.returns
returns g c =
    let whole : c.loop-i.i ≡ length c.args.events.now = omega arith in
    c.loop-i.invariant ∙ ap (map (moved_event (place_of_address c.args.places.now.entries))) (take_all c.loop-i.i c.args.events.now (omega arith))
