-- The entries of the log that a report is (this project's own format).
use Rattle.std.specs.Prelude.{List, [], ◌∷◌, ◌++◌, map, if◌then◌else◌}
use Rattle.std.specs.List.{flat_map}
use Rattle.memory_models.specs.Trace.{is_load}
use Rattle.model_text.specs.Kinds.{kind_of_op}
use Rattle.report_model.specs.declared.entry.LineEntry.{LineEntry}
use Rattle.report_model.specs.declared.entry.LogEntry.{LogEntry}
use Rattle.report_model.specs.declared.entry.LogEntry.TheVariants as entry
use Rattle.report_model.specs.declared.entry.Named.{Named}
use Rattle.report_model.specs.declared.row.ProgramStep.{ProgramStep}
use Rattle.report_model.specs.declared.row.ReportRow.{ReportRow}
use Rattle.report_model.specs.Indexes.{name_issued, operation_step}
use Rattle.report_model.specs.Rows.{made_of, rows_of}
use Rattle.report_model.specs.Run.{ModelledRun}

-- an operation or a fence is made
abbrev pub made_entry : ProgramStep → LineEntry
made_entry step =
    record { line = step.line; entry = entry.Made step.source step.operation }

-- an operation takes its place on its word: a load reads what the writes before it left, and every
-- other operation writes next
abbrev pub placed_entry : ReportRow → Named → LogEntry
placed_entry row name =
    if is_load (kind_of_op row.operation.op) then entry.Served name else entry.Wrote name

-- and replies
abbrev pub service_entries : ReportRow → Named → List LineEntry
service_entries row name =
    (record { line = row.line; entry = placed_entry row name })
    ∷ (record { line = row.line; entry = entry.Replied name row.reply }) ∷ []

-- the service of an operation, which is one of some steps
abbrev pub services : List ProgramStep → ReportRow → List LineEntry
services steps row = service_entries row (name_issued steps row.issued)

-- the entries of a report as a log, where its processors' programs are these steps: the opening
-- words, the programs, and the operations' services in the order of service, which is the order of
-- each word
abbrev pub entries_with : ModelledRun → List ProgramStep → List LineEntry
entries_with r steps =
    (r.inits ++ map made_entry steps) ++ flat_map (services steps) (rows_of r)

-- the operations of a report in the order of issue, which is the program order of each processor
abbrev pub steps_issued : ModelledRun → List ProgramStep
steps_issued r = map operation_step (made_of (rows_of r))

-- the entries of a report as a log without fences
abbrev pub entries_of : ModelledRun → List LineEntry
entries_of r = entries_with r (steps_issued r)
