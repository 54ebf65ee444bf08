use Rattle.std.proofs.Common.{◌≡◌, ◌+◌, drop}
use Rattle.model_text.specs.Views.{log_so_far}
use Rattle.report_model.specs.LogEntries.{entries_log_from, numbered_entries}
use Rattle.report_model.specs.Records.{after_model_record, log_of_records}
use Rattle.report_model.proofs.records.log_of_records.Given as goal

-- what is left of the records leads where all of them lead
abbrev pub invariant-loop-place : goal.invariant-loop-place
invariant-loop-place g l = record {
  reads : entries_log_from numbered_entries after_model_record (log_so_far l.log) (l.place + 1) (drop l.place l.records) ≡ log_of_records l.words l.records;
}
