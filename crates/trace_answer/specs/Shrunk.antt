-- What is left of a trace where a small part without an order is asked for.
use Rattle.std.specs.Prelude.{◌≡◌, ℕ}
use Rattle.trace_text.specs.Traced.{TraceSpec}
use Rattle.trace_answer.specs.declared.shrunk.ShrunkTrace.{ShrunkTrace}
use Rattle.trace_answer.specs.Parts.{IsBrokenAt, IsSmallPart, part_of}
use Rattle.trace_answer.specs.Written.{line_of_event, part_text}

-- a small part that no order explains, its text, and the line of that up to which none does
pub record IsShrunk {A : Type 0} (t : TraceSpec) (bound : ℕ) (s : ShrunkTrace A) : Type 0 where
  pub small : IsSmallPart t bound s.part
  pub text : s.text.items ≡ part_text t s.part.kept.items
  pub event : ℕ
  pub broken : IsBrokenAt (part_of t s.part.kept.items) bound event
  pub line : s.line ≡ line_of_event t s.part.kept.items event
