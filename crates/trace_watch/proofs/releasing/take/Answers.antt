use Rattle.std.proofs.Common.{ℕ, ◌∙◌, refl, ap}
use Rattle.packet.specs.declared.kinds.Reply.{Reply}
use Rattle.trace_watch.specs.States.{configs_of}
use Rattle.trace_watch.proofs.Gathering.{take_none, take_stuck, take_one}
use Rattle.trace_watch.proofs.releasing.take.Goals as goal

pub returns-then-not-same_reply-clause-gathers : goal.returns-then-not-same_reply-clause-gathers
returns-then-not-same_reply-clause-gathers g c =
    take_none c.args.calls.now c.args.call c.args.reply _ c.args.state.now (configs_of c.args.kept.now.items)
    (ap (λ (p : ℕ × Reply). p.1) c.apply-word.ensures) (c.if-not-same_reply.ensures.no refl)

pub returns-then-not-enough-clause-gathers : goal.returns-then-not-enough-clause-gathers
returns-then-not-enough-clause-gathers g c =
    take_stuck c.args.calls.now c.args.call c.args.reply c.args.state.now c.deref.result.now
    (configs_of c.args.kept.now.items) c.deref.ensures.value (c.in_ok-enough.ensures.no c.if-not-enough.true)

pub returns-clause-gathers : goal.returns-clause-gathers
returns-clause-gathers g c =
    take_one c.args.calls.now c.args.call c.args.reply _ _ c.args.state.now c.in_ok-low.low c.deref.result.now
    c.deref-2.result.now c.deref-3.result.now (configs_of c.args.kept.now.items) (configs_of c.add.new.found.items)
    (ap (λ (p : ℕ × Reply). p.0) c.apply-word.ensures) (ap (λ (p : ℕ × Reply). p.1) c.apply-word.ensures)
    (c.if-not-same_reply.ensures.yes refl) c.deref.ensures.value (c.in_ok-enough.ensures.yes c.if-not-enough.false)
    c.deref-2.ensures.value (c.deref-3.ensures.value ∙ c.in_ok-seen.ensures) c.in_ok-low.ensures
    c.in_ok-add.ensures.added
