-- Which refusal the sentence on a trace text reports.
use Rattle.std.specs.Prelude.{◌≡◌, ◌⊎◌, ℕ, true, List, Option, Some, None, Err, is_ok}
use Rattle.lexer.specs.declared.refusal.Refusal.{Refusal}
use Rattle.lexer.specs.Outcome.{refusal_at}
use Rattle.trace_lines.specs.declared.reason.LineReason.TheVariants as line
use Rattle.trace_text.specs.declared.reason.TraceReason.{TraceReason}
use Rattle.trace_text.specs.declared.reason.TraceReason.TheVariants as reason
use Rattle.trace_text.specs.Traced.{trace_or_why}
use Rattle.trace_why.specs.declared.refused.TraceSentence.{TraceSentence}

-- the refusal that a sentence reports
abbrev pub refusal_in : TraceSentence → Refusal TraceReason
refusal_in s = refusal_at s.line s.reason

-- what is told of a text: the refusal that its reader gives, or that of memory; none where it has
-- no fault
abbrev pub TellsTraceRefusal : List (List ℕ) → Option (Refusal TraceReason) → Type 0
TellsTraceRefusal lines None = is_ok (trace_or_why lines) ≡ true
TellsTraceRefusal lines (Some s) =
    (s ≡ refusal_at 0 (reason.Line line.Memory)) ⊎ (trace_or_why lines ≡ Err s)
