use Rattle.std.proofs.Common.{length, refl, arith, sym, ◌∙◌}
use Rattle.trace_judge.proofs.Boundary.{boundary_behind, boundary_found, boundary_from, boundary_judged, trace_take}
use Rattle.trace_judge.proofs.judge.first_bad.Goals as goal
use Rattle.trace_judge.proofs.judge.first_bad.Goals.{then-is_some, else-is_some}

pub loop-good-init : goal.loop-good-init
loop-good-init g c = boundary_from c.args.opening.now c.args.events.now _ c.requires.none c.requires.good

pub explain_beginning-requires-clause-trace : goal.explain_beginning-requires-clause-trace
explain_beginning-requires-clause-trace g c = trace_take (length c.args.opening.now) _ c.args.events.now c.requires.trace

pub explain_beginning-requires-clause-beginning : goal.explain_beginning-requires-clause-beginning
explain_beginning-requires-clause-beginning g c = (_, refl)

pub loop-good-preserved : goal.loop-good-preserved
loop-good-preserved g c =
    let judged = boundary_judged c.args.opening.now c.args.events.now c.loop-good.good c.loop-good.bad c.between-middle.result c.in-Ok.found
    c.between-middle.ensures.above c.between-middle.ensures.below c.in-Ok.ensures.decided c.loop-good.invariant in
    elim c.if-is_some.branch [
      | then-is_some w ↦ rw (w.good-is, w.bad-is) (judged.0 (sym c.is_some.ensures ∙ w.if-is_some.true))
      | else-is_some w ↦ rw (w.good-is, w.bad-is) (judged.1 (sym c.is_some.ensures ∙ w.if-is_some.false))
    ]

pub shorter-requires-clause-bad : goal.shorter-requires-clause-bad
shorter-requires-clause-bad g c = boundary_behind c.args.opening.now c.args.events.now c.loop-good.good c.loop-good.bad c.loop-good.invariant

pub returns : goal.returns
returns g c = boundary_found c.args.opening.now c.args.events.now c.loop-good.good c.loop-good.bad (omega arith) c.loop-good.invariant
