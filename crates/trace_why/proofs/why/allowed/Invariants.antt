use Rattle.packet.specs.declared.kinds.Reply.TheVariants.{Old}
use Rattle.trace_text.specs.Allowed.{IsAllowed}
use Rattle.trace_text.specs.Traced.{opening_of}
use Rattle.trace_why.proofs.Growing.{Filtering}
use Rattle.trace_why.proofs.why.allowed.Given as goal

abbrev pub invariant-loop-value : goal.invariant-loop-value
invariant-loop-value g l =
    Filtering (λ v. IsAllowed (opening_of l.trace) l.trace.events l.event l.id (Old v)) l.values l.value-index l.kept.items
