-- A line that is refused, or for which there is no memory.
use Rattle.std.proofs.Common.{◌≡◌, ◌⊎◌, inl, inr, ℕ, refl, sym, ap}
use Rattle.std.specs.Prelude.{Option, Some, None, Result, Ok, Err}
use Rattle.trace_laws.specs.declared.event.Event.{Event}
use Rattle.trace_lines.specs.declared.reason.LineReason.TheVariants as line
use Rattle.trace_lines.specs.Head.{HeadSpec}
use Rattle.trace_text.specs.declared.reason.TraceReason.{TraceReason}
use Rattle.trace_text.specs.declared.reason.TraceReason.TheVariants as reason
use Rattle.trace_watch.specs.declared.watch.Watch.{Watch}
use Rattle.command_watch.specs.declared.stop.Stop.TheVariants.{Refused}
use Rattle.command_watch.specs.Stream.{StreamSpec, event_of}
use Rattle.command_watch.specs.Watching.{JudgesLine, TakesStreamLine}

-- without memory nothing is told of an event
pub unjudged : {A : Type 0} (U : Type 0) (head : HeadSpec) (event : Option Event) (bound : ℕ) (old new : Option (Watch A)) (why : TraceReason)
    → why ≡ reason.Line line.Memory → JudgesLine {A = A} {U = U} head event bound old new (Err (Refused why))
unjudged U head None bound old new why e = (tt, ap Refused e)
unjudged U head (Some event) bound old new why e = λ opening trace known. e

-- the reader of a line refused it
pub refused_line : {A : Type 0} (U : Type 0) (made : Result StreamSpec TraceReason) (bound : ℕ) (read : StreamSpec) (old new : Option (Watch A))
    (why : TraceReason) → (why ≡ reason.Line line.Memory) ⊎ (made ≡ Err why)
    → TakesStreamLine {A = A} {U = U} made bound read old new (Err (Refused why))
refused_line U (Ok next) bound read old new why (inl e) = (tt, unjudged U next.head (event_of next.given) bound old new why e)
refused_line U (Ok next) bound read old new why (inr e) = absurd (cc)
refused_line U (Err other) bound read old new why (inl e) = inr (ap (λ (w : TraceReason). Err (Refused w)) e)
refused_line U (Err other) bound read old new why (inr e) = let same : other ≡ why = cc in inl (ap (λ (w : TraceReason). Err (Refused w)) (sym same))
