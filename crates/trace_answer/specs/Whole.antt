-- What a trace text that is read gives.
use Rattle.std.specs.Prelude.{◌≡◌, ◌≤◌, ℕ, Some, slice_get}
use Rattle.trace_laws.specs.declared.event.Call.{Call}
use Rattle.trace_laws.specs.Traces.{IsTrace, TraceIssuesAt}
use Rattle.trace_text.specs.declared.issued.Issued.{Issued}
use Rattle.trace_text.specs.Kept.{IsKnownAs}
use Rattle.trace_text.specs.Traced.{TraceSpec}

-- the events are a trace on a memory of some words, each operation is known as it was issued, and
-- no two have one processor and one index (this project's own format)
pub record IsWholeTrace (t : TraceSpec) : Type 0 where
  pub words : 1 ≤ t.words
  pub trace : IsTrace t.words t.events
  pub known : (i : ℕ) (call : Call) → TraceIssuesAt t.events i call → IsKnownAs t.issued call
  pub apart : (n m : ℕ) (i j : Issued) → slice_get t.issued n ≡ Some i
      → slice_get t.issued m ≡ Some j
      → i.processor ≡ j.processor → i.index ≡ j.index → n ≡ m
