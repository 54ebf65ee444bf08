use Rattle.std.proofs.Common.{◌∙◌, List, length, refl, ap}
use Rattle.std.specs.List.{remove}
use Rattle.std.proofs.lemmas.Option.{slice_get_read}
use Rattle.trace_watch.specs.declared.state.Effect.{Effect}
use Rattle.trace_watch.specs.States.{configs_of}
use Rattle.trace_watch.proofs.Gathering.{claim_none, claim_stuck, claim_one}
use Rattle.trace_watch.proofs.releasing.claim.Goals as goal

pub returns-then-not-may_reply-clause-gathers : goal.returns-then-not-may_reply-clause-gathers
returns-then-not-may_reply-clause-gathers g c =
    claim_none c.args.calls.now c.args.call c.args.reply c.args.state.now c.args.at c.index-effect.result.now
    (configs_of c.args.kept.now.items)
    (slice_get_read c.args.state.now.effects.items (length c.args.state.now.effects.items) c.args.at c.index-effect.result.now refl
    c.requires.inside c.index-effect.ensures) (c.if-not-may_reply.ensures.no refl)

pub returns-then-not-enough-clause-gathers : goal.returns-then-not-enough-clause-gathers
returns-then-not-enough-clause-gathers g c =
    claim_stuck c.args.calls.now c.args.call c.args.reply c.args.state.now c.args.at c.deref-2.result.now
    (configs_of c.args.kept.now.items)
    (c.deref-2.ensures.value ∙ c.in_ok-less.ensures
    ∙ ap (λ (es : List Effect). remove es c.args.at) c.deref.ensures.value)
    (c.in_ok-enough.ensures.no c.if-not-enough.true)

pub returns-clause-gathers : goal.returns-clause-gathers
returns-clause-gathers g c =
    let may = c.if-not-may_reply.ensures.yes refl in
    let left = c.in_ok-less.ensures ∙ ap (λ (es : List Effect). remove es c.args.at) c.deref.ensures.value in
    claim_one c.args.calls.now c.args.call c.args.reply c.args.state.now c.in_ok-low.low c.args.at
    c.index-effect.result.now c.deref-2.result.now c.deref-3.result.now c.deref-4.result.now
    (configs_of c.args.kept.now.items) (configs_of c.add.new.found.items)
    (slice_get_read c.args.state.now.effects.items (length c.args.state.now.effects.items) c.args.at c.index-effect.result.now refl
    c.requires.inside c.index-effect.ensures) may.0 may.1 (c.deref-2.ensures.value ∙ left) (c.deref-3.ensures.value ∙ left)
    c.deref-4.ensures.value (c.in_ok-enough.ensures.yes c.if-not-enough.false) c.in_ok-low.ensures
    c.in_ok-add.ensures.added
