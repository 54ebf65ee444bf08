-- How a `TraceText` keeps its trace.
use Rattle.trace_text.specs.declared.text.TraceText.TheInside.{Inside}
use Rattle.trace_text.specs.Traced.{TraceSpec}
use Rattle.trace_text.specs.Kept.{IsKeptIssue}
use Rattle.trace_text.specs.Views.{trace_so_far}

abbrev pub trace_of_fields : {A : Type 0} → Inside A → TraceSpec
trace_of_fields t = record {
  words = t.reading.head.words;
  inits = t.reading.head.inits;
  issued = t.reading.issued.items;
  events = t.reading.events.items;
  lines = t.reading.lines.items;
}

abbrev pub IsTraceText : {A : Type 0} → Inside A → Type 0
IsTraceText t = IsKeptIssue (trace_so_far t.reading)
