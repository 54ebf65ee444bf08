use Rattle.std.proofs.Common.{◌∙◌, Some, ap, slice_get}
use Rattle.trace_answer.specs.Written.{count_before}
use Rattle.trace_answer.specs.declared.counts.Key.TheVariants.{Processor}
use Rattle.trace_answer.proofs.written.part_text.Goals as goal

pub put_events-requires : goal.put_events-requires
put_events-requires g c = λ n i there.
    ap (λ z. slice_get z n) c.deref.ensures.value
    ∙ (c.in_ok-counts.ensures n i (ap (λ z. slice_get z n) c.issued.ensures ∙ there)
    ∙ ap (λ z. Some (count_before z c.args.kept.now Processor i.processor n)) c.issued.ensures)
