use Rattle.std.proofs.Common.{◌<◌, ◌≡◌, ◌∙◌, ap, length, arith, map}
use Rattle.std.proofs.lemmas.List.{take_all}
use Rattle.trace_text.specs.Findings.{placed_address}
use Rattle.trace_text.specs.Renumbered.{moved_call}
use Rattle.trace_text.proofs.Mapped.{mapped_more}
use Rattle.trace_text.proofs.linearize.named_calls.Goals as goal

pub loop-i-preserved : goal.loop-i-preserved
loop-i-preserved g c =
    let low : c.loop-i.i < length c.args.calls.now = omega arith in
    mapped_more (moved_call (placed_address c.args.addresses.now)) c.args.calls.now c.loop-i.i _ c.loop-i.all.items c.named.result c.push.new.self.items
    low c.named.ensures c.loop-i.invariant c.in_ok-push.ensures.items

pub returns : goal.returns
returns g c =
    let whole : c.loop-i.i ≡ length c.args.calls.now = omega arith in
    c.loop-i.invariant ∙ ap (map (moved_call (placed_address c.args.addresses.now))) (take_all c.loop-i.i c.args.calls.now (omega arith))
