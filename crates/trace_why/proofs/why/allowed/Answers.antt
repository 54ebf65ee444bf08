use Rattle.std.proofs.Common.{◌<◌, length, arith, sym, subst}
use Rattle.std.proofs.lemmas.Option.{slice_get-get_or}
use Rattle.packet.specs.declared.kinds.Reply.TheVariants.{Old}
use Rattle.trace_text.specs.Allowed.{IsAllowed}
use Rattle.trace_text.specs.Traced.{opening_of}
use Rattle.trace_text.proofs.Allowing.{pushed}
use Rattle.trace_why.proofs.Growing.{filtering_keep, filtering_skip, filtered}
use Rattle.std.proofs.lemmas.Result.{err_from_is_err_and}
use Rattle.trace_why.specs.declared.untold.Untold.{Untold}
use Rattle.trace_why.specs.Why.{IsUntold}
use Rattle.trace_why.proofs.why.allowed.Goals as goal
use Rattle.trace_why.proofs.why.allowed.Goals.{then-branch+else-is_err, else-branch}

pub loop-value-preserved : goal.loop-value-preserved
loop-value-preserved g c =
    let l : c.loop-value.value-index < length c.args.values.now = omega arith in
    elim c.if-branch.branch [
      | then-branch+else-is_err w ↦ rw (
        w.kept-is,
        pushed w.push.result w.is_err.result w.push.new.self.items _ c.loop-value.kept.items w.is_err.ensures.value w.if-is_err.false
            w.push.ensures.items,
      )
          (filtering_keep (λ v. IsAllowed (opening_of c.args.trace.now) c.args.trace.now.events c.args.event c.args.id (Old v))
          c.args.values.now c.loop-value.value-index c.loop-value.kept.items _ c.loop-value.invariant
          (slice_get-get_or c.args.values.now c.loop-value.value-index _ l) (c.in_ok-may_tell.ensures.yes w.if-branch.true))
      | else-branch w ↦ rw w.kept-is
          (filtering_skip (λ v. IsAllowed (opening_of c.args.trace.now) c.args.trace.now.events c.args.event c.args.id (Old v))
          c.args.values.now c.loop-value.value-index c.loop-value.kept.items _ c.loop-value.invariant
          (slice_get-get_or c.args.values.now c.loop-value.value-index _ l) (c.in_ok-may_tell.ensures.no w.if-branch.false))
    ]

pub returns-clause-exact : goal.returns-clause-exact
returns-clause-exact g c = λ v. (
  λ h. c.loop-value.invariant.inside v h,
  λ h. filtered (λ v. IsAllowed (opening_of c.args.trace.now) c.args.trace.now.events c.args.event c.args.id (Old v)) c.args.values.now
      c.loop-value.value-index c.loop-value.kept.items (let end = c.loop-value-test.false in omega arith) c.loop-value.invariant v h,
)

pub returns-in_err-may_tell-clause-untold : goal.returns-in_err-may_tell-clause-untold
returns-in_err-may_tell-clause-untold g c = λ tries.
    let p = err_from_is_err_and c.from_residual.result c.from_residual.ensures.1 in
    rw p.1 (subst (λ (e : Untold). IsUntold c.args.trace.now c.args.event tries c.args.bound e) (sym p.2) (c.in_err-may_tell.ensures.untold tries))
