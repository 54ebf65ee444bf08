use Rattle.std.proofs.Common.{◌≡◌, ◌+◌, ◌≤◌, length}
use Rattle.std.specs.Str.Lines.{lines}
use Rattle.trace_text.specs.Kept.{IsKeptIssue}
use Rattle.trace_text.specs.Traced.{trace_from, trace_or_why}
use Rattle.trace_text.specs.Views.{trace_so_far}
use Rattle.trace_text.proofs.text.read_trace_or_why.Given as goal

abbrev pub decreases-loop-line : goal.decreases-loop-line
decreases-loop-line g l = length l.rest

abbrev pub invariant-loop-line : goal.invariant-loop-line
invariant-loop-line g l = record {
  count : l.number + length l.rest ≤ length l.text + 1;
  positive : 1 ≤ l.number;
  kept : IsKeptIssue (trace_so_far l.reading);
  reads : trace_from (trace_so_far l.reading) l.number (lines l.rest) ≡ trace_or_why (lines l.text);
}
