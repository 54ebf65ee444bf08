use Rattle.std.proofs.Common.{◌≡◌, ◌+◌, drop}
use Rattle.model_text.specs.Views.{log_so_far}
use Rattle.report_model.specs.LogEntries.{after_entry, entries_log_from, log_of_entries, numbered_entries}
use Rattle.report_model.proofs.numbered.log_of_entries.Given as goal

-- what is left of the entries leads where all of them lead
abbrev pub invariant-loop-place : goal.invariant-loop-place
invariant-loop-place g l = record {
  reads : entries_log_from numbered_entries after_entry (log_so_far l.log) (l.place + 1) (drop l.place l.entries) ≡ log_of_entries l.words l.entries;
}
