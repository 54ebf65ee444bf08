-- One part more, or one that is refused.
use Rattle.std.proofs.Common.{inr, sym, ap, ◌∙◌}
use Rattle.std.specs.Prelude.{Ok, Err}
use Rattle.std.proofs.lemmas.Result.{err_from_is_err_and}
use Rattle.network_text.proofs.ListedRanges.{named_more, named_none}
use Rattle.network_text.proofs.ranges.ranges_of.Goals as goal

pub loop-part-preserved : goal.loop-part-preserved
loop-part-preserved g c =
    named_more (λ part. part.now) c.args.place c.args.parts.now c.loop-part.part-index _ c.loop-part.ranges.items c.in_ok-range.range
    c.loop-part-test.true c.loop-part.invariant (sym c.in_ok-range.ensures)
    ∙ ap Ok (sym c.in_ok-put_range.ensures)

pub returns-in_err-range-clause-reason : goal.returns-in_err-range-clause-reason
returns-in_err-range-clause-reason g c =
    let p = err_from_is_err_and c.from_residual.result c.from_residual.ensures.1 in
    rw p.1 (inr
    (named_none (λ part. part.now) c.args.place c.args.parts.now c.loop-part.part-index _ c.loop-part.ranges.items _ c.loop-part-test.true
    c.loop-part.invariant (sym c.in_err-range.ensures) ∙ ap Err (sym p.2)))
