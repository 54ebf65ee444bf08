use Rattle.std.proofs.Common.{◌+◌, ◌<◌, Option, length, sym, subst, arith}
use Rattle.std.proofs.lemmas.Option.{slice_get-get_or}
use Rattle.trace_laws.specs.declared.event.Call.{Call}
use Rattle.trace_watch.specs.Matchings.{MayStillBe}
use Rattle.trace_watch.proofs.Newest.{NewestBelow, below_all, below_more, below_same}
use Rattle.trace_watch.proofs.matching.newest_among.Goals as goal
use Rattle.trace_watch.proofs.matching.newest_among.Goals.{then-may_still_be, else-may_still_be}

pub loop-i-preserved : goal.loop-i-preserved
loop-i-preserved c =
    let l : c.loop-i.i < length c.args.calls.now = omega arith in
    elim c.if-may_still_be.branch [
      | then-may_still_be w ↦
          subst (λ (o : Option Call). NewestBelow c.args.calls.now (MayStillBe c.args.taken.now c.args.effect) (c.loop-i.i + 1) o)
          (sym w.newest-is)
          (below_more c.args.calls.now (MayStillBe c.args.taken.now c.args.effect) c.loop-i.i c.loop-i.newest
          w.newer-newest.result _ (slice_get-get_or c.args.calls.now c.loop-i.i _ l)
          (c.may_still_be.ensures.yes w.if-may_still_be.true) w.newer-newest.ensures c.loop-i.invariant)
      | else-may_still_be w ↦
          subst (λ (o : Option Call). NewestBelow c.args.calls.now (MayStillBe c.args.taken.now c.args.effect) (c.loop-i.i + 1) o)
          (sym w.newest-is)
          (below_same c.args.calls.now (MayStillBe c.args.taken.now c.args.effect) c.loop-i.i c.loop-i.newest _
          (slice_get-get_or c.args.calls.now c.loop-i.i _ l) (c.may_still_be.ensures.no w.if-may_still_be.false)
          c.loop-i.invariant)
    ]

pub returns : goal.returns
returns c =
    below_all c.args.calls.now (MayStillBe c.args.taken.now c.args.effect) c.loop-i.i c.loop-i.newest (omega arith)
    c.loop-i.invariant
