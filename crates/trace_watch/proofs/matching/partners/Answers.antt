use Rattle.std.proofs.Common.{◌<◌, length, arith}
use Rattle.std.proofs.lemmas.Option.{slice_get-get_or}
use Rattle.trace_watch.proofs.Fitting.{fitting_none, fitting_more, fitting_stuck, fitting_all}
use Rattle.trace_watch.proofs.matching.partners.Goals as goal

pub loop-i-init : goal.loop-i-init
loop-i-init g c =
    fitting_none c.args.calls.now c.args.effects.now c.clear.new.self.items c.clear.ensures.items

pub loop-i-preserved : goal.loop-i-preserved
loop-i-preserved g c =
    let l : c.loop-i.i < length c.args.effects.now = omega arith in
    fitting_more c.args.calls.now c.args.effects.now c.loop-i.i c.loop-i.taken.items c.deref.result.now
    c.push.new.self.items _ c.in-Some.call (slice_get-get_or c.args.effects.now c.loop-i.i _ l) c.deref.ensures.value
    c.in-Some.ensures c.in_ok-push.ensures.items c.loop-i.invariant

pub returns-in_default-clause-no : goal.returns-in_default-clause-no
returns-in_default-clause-no g c = λ _.
    let l : c.loop-i.i < length c.args.effects.now = omega arith in
    fitting_stuck c.args.calls.now c.args.effects.now c.loop-i.i c.loop-i.taken.items c.deref.result.now _
    (slice_get-get_or c.args.effects.now c.loop-i.i _ l) c.deref.ensures.value c.in_default.ensures c.loop-i.invariant

pub returns-clause-yes : goal.returns-clause-yes
returns-clause-yes g c = λ _.
    fitting_all c.args.calls.now c.args.effects.now c.loop-i.i c.loop-i.taken.items (omega arith) c.loop-i.invariant
