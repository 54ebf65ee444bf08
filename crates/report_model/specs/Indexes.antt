-- The steps of a report's processors, and which of its processor's steps each operation is (this
-- project's own format).
use Rattle.std.specs.Prelude.{ℕ, ◌==◌, List, map, take, length, count_by, slice_index_or, Some, None}
use Rattle.std.specs.List.{range_with_len}
use Rattle.report_model.specs.declared.entry.Named.{Named}
use Rattle.model_text.specs.Traces.{place_below}
use Rattle.report_model.specs.declared.row.ProgramStep.{ProgramStep}
use Rattle.report_model.specs.declared.row.ReportRow.{ReportRow}
use Rattle.report_model.specs.Rows.{event_limit}

-- an operation, and the fence before one
abbrev pub operation_step : ReportRow → ProgramStep
operation_step row = record {
  line = row.line;
  source = row.source;
  operation = Some row.operation;
  issued = row.issued;
}

abbrev pub fence_before : ReportRow → ProgramStep
fence_before row =
    record { line = row.line; source = row.source; operation = None; issued = 0 }

-- the numbers of the issues of steps
abbrev pub issues_of_steps : List ProgramStep → List ℕ
issues_of_steps steps = map (λ step. step.issued) steps

-- how many of the steps before a place are a processor's
abbrev pub made_before : List ProgramStep → ℕ → ℕ → ℕ
made_before steps p k = count_by (λ step. step.source == p) (take k steps)

-- the processor of the step at a place
abbrev pub processor_at : List ProgramStep → ℕ → ℕ
processor_at steps j = slice_index_or (map (λ step. step.source) steps) j 0

-- the name of the step at a place: its processor, and how many steps that made before
abbrev pub name_at : List ProgramStep → ℕ → Named
name_at steps j =
    record { processor = processor_at steps j; index = made_before steps (processor_at steps j) j }

-- the names of all
abbrev pub names_of : List ProgramStep → List Named
names_of steps = map (name_at steps) (range_with_len 0 (length steps))

-- the name of the operation whose issue has a number
abbrev pub name_issued : List ProgramStep → ℕ → Named
name_issued steps n = slice_index_or (names_of steps)
    (place_below (issues_of_steps steps) (event_limit (issues_of_steps steps)) n)
    (record { processor = 0; index = 0 })
