use Rattle.std.proofs.Common.{◌≡◌, ◌+◌, drop}
use Rattle.model_text.specs.Views.{log_so_far}
use Rattle.report_model.specs.LogEntries.{after_line_entry, line_of_entry, entries_log_from, log_of_lines}
use Rattle.report_model.proofs.lined.log_of_lines.Given as goal

-- what is left of the entries leads where all of them lead
abbrev pub invariant-loop-place : goal.invariant-loop-place
invariant-loop-place g l = record {
  reads : entries_log_from line_of_entry after_line_entry (log_so_far l.log) (l.place + 1) (drop l.place l.entries) ≡ log_of_lines l.words l.entries;
}
