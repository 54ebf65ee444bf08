use Rattle.std.proofs.Common.{◌≡◌, ◌<◌, List, length, sym, subst, arith}
use Rattle.std.proofs.lemmas.Option.{slice_get-get_or}
use Rattle.trace_laws.specs.declared.event.Call.{Call}
use Rattle.trace_watch.proofs.Sifting.{Filtered, filtered_none, filtered_skip, filtered_pushed, filtered_all}
use Rattle.trace_watch.proofs.pending.calls_on.Goals as goal
use Rattle.trace_watch.proofs.pending.calls_on.Goals.{then-call-address+in_ok-push, else-call-address}

pub loop-i-init : goal.loop-i-init
loop-i-init g c = subst (λ (ys : List Call). Filtered (λ (x : Call). x.operation.address ≡ c.args.address) c.args.calls.now 0 ys)
    (sym c.new-here.ensures.items) (filtered_none (λ (x : Call). x.operation.address ≡ c.args.address) c.args.calls.now)

pub loop-i-preserved : goal.loop-i-preserved
loop-i-preserved g c =
    let l : c.loop-i.i < length c.args.calls.now = omega arith in
    elim c.if-call-address.branch [
      | then-call-address+in_ok-push w ↦ rw w.here-is
          (filtered_pushed (λ (x : Call). x.operation.address ≡ c.args.address) c.args.calls.now c.loop-i.i c.loop-i.here.items _ _
          (slice_get-get_or c.args.calls.now c.loop-i.i _ l) w.if-call-address.true w.in_ok-push.ensures.items c.loop-i.invariant)
      | else-call-address w ↦ rw w.here-is
          (filtered_skip (λ (x : Call). x.operation.address ≡ c.args.address) c.args.calls.now c.loop-i.i c.loop-i.here.items _
          (slice_get-get_or c.args.calls.now c.loop-i.i _ l) w.if-call-address.false c.loop-i.invariant)
    ]

pub returns : goal.returns
returns g c = filtered_all (λ (x : Call). x.operation.address ≡ c.args.address) c.args.calls.now c.loop-i.i c.loop-i.here.items (omega arith)
    c.loop-i.invariant
