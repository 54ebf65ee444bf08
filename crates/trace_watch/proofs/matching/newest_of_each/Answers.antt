use Rattle.std.proofs.Common.{◌≡◌, ◌<◌, ◌+◌, ◌-◌, List, length, refl, sym, subst, arith}
use Rattle.std.proofs.lemmas.Option.{slice_get-get_or}
use Rattle.trace_laws.specs.declared.event.Call.{Call}
use Rattle.trace_watch.proofs.Fitting.{Newest, newest_none, newest_pushed, newest_kept}
use Rattle.trace_watch.proofs.matching.newest_of_each.Goals as goal
use Rattle.trace_watch.proofs.matching.newest_of_each.Goals.{then-not-has_as_new+in_ok-push, else-not-has_as_new}

pub loop-i-init : goal.loop-i-init
loop-i-init g c = subst (λ (cs : List Call). Newest c.args.calls.now 0 cs) (sym c.new-newest.ensures.items)
    (newest_none c.args.calls.now)

pub loop-i-preserved : goal.loop-i-preserved
loop-i-preserved g c =
    let l : length c.args.calls.now - 1 - c.loop-i.i < length c.args.calls.now = omega arith in
    let long : length c.args.calls.now ≡ length c.args.calls.now - 1 - c.loop-i.i + c.loop-i.i + 1 = omega arith in
    elim c.if-not-has_as_new.branch [
      | then-not-has_as_new+in_ok-push w ↦ rw w.newest-is
          (newest_pushed c.args.calls.now c.loop-i.i (length c.args.calls.now - 1 - c.loop-i.i) c.loop-i.newest.items
          w.push.new.self.items _ (slice_get-get_or c.args.calls.now (length c.args.calls.now - 1 - c.loop-i.i) _ l) long
          w.in_ok-push.ensures.items c.loop-i.invariant)
      | else-not-has_as_new w ↦ rw w.newest-is
          (newest_kept c.args.calls.now c.loop-i.i (length c.args.calls.now - 1 - c.loop-i.i) c.loop-i.newest.items
          c.deref.result.now _ (slice_get-get_or c.args.calls.now (length c.args.calls.now - 1 - c.loop-i.i) _ l) long
          c.deref.ensures.value (w.if-not-has_as_new.ensures.yes refl) c.loop-i.invariant)
    ]
