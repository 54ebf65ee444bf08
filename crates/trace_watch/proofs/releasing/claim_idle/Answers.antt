use Rattle.std.proofs.Common.{refl}
use Rattle.trace_watch.specs.States.{configs_of}
use Rattle.trace_watch.proofs.Gathering.{found_none, found_one, found_stuck}
use Rattle.trace_watch.proofs.releasing.claim_idle.Goals as goal

pub returns-then-not-has_found-clause-gathers : goal.returns-then-not-has_found-clause-gathers
returns-then-not-has_found-clause-gathers g c =
    found_none c.args.calls.now c.args.call c.args.reply c.args.state.now c.deref.result.now
    (configs_of c.args.kept.now.items) c.deref.ensures.value (c.if-not-has_found.ensures.no refl)

pub returns-then-not-enough-clause-gathers : goal.returns-then-not-enough-clause-gathers
returns-then-not-enough-clause-gathers g c =
    found_stuck c.args.calls.now c.args.call c.args.reply c.args.state.now c.deref-2.result.now
    (configs_of c.args.kept.now.items) c.deref-2.ensures.value (c.in_ok-enough.ensures.no c.if-not-enough.true)

pub returns-clause-gathers : goal.returns-clause-gathers
returns-clause-gathers g c =
    found_one c.args.calls.now c.args.call c.args.reply c.args.state.now c.in_ok-low.low c.deref.result.now
    c.deref-4.result.now c.deref-2.result.now c.deref-3.result.now (configs_of c.args.kept.now.items)
    (configs_of c.add.new.found.items) c.deref.ensures.value (c.if-not-has_found.ensures.yes refl)
    c.deref-2.ensures.value (c.in_ok-enough.ensures.yes c.if-not-enough.false) c.deref-3.ensures.value
    c.deref-4.ensures.value c.in_ok-low.ensures c.in_ok-add.ensures.added
