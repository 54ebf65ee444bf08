use Rattle.std.proofs.Common.{◌++◌, ◌∙◌, ap, sym, slice_get}
use Rattle.trace_answer.specs.Written.{opening_at}
use Rattle.trace_answer.proofs.Writing.{images_more}
use Rattle.trace_answer.proofs.written.openings.Goals as goal

pub loop-k-preserved : goal.loop-k-preserved
loop-k-preserved g c =
    c.in_ok-add_opening.ensures
    ∙ ap (λ zs. zs ++ opening_at c.args.trace.now c.args.kept.now c.loop-k.k (slice_get c.args.trace.now.issued c.loop-k.k)) c.loop-k.invariant
    ∙ sym (images_more (λ k. opening_at c.args.trace.now c.args.kept.now k (slice_get c.args.trace.now.issued k)) c.loop-k.k)
