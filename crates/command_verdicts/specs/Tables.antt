-- What a table of operations is judged to be: what its trace text is, with the lines of the table (this
-- project's own format).
use Rattle.std.specs.Prelude.{◌≡◌, ◌⊎◌, ℕ, List, Result, Ok, Err}
use Rattle.std.specs.Str.Lines.{lines}
use Rattle.lexer.specs.declared.refusal.Refusal.{Refusal}
use Rattle.lexer.specs.declared.fault.LineFault.{LineFault}
use Rattle.lexer.specs.Faults.{fault_of_refusal}
use Rattle.trace_text.specs.declared.linearize.Unfound.{Unfound}
use Rattle.trace_text.specs.declared.linearize.Unfound.TheVariants as unfound
use Rattle.trace_table.specs.declared.reason.TableReason.{TableReason}
use Rattle.trace_table.specs.declared.row.TableRow.{TableRow}
use Rattle.trace_table.specs.Reasons.{table_fault_of}
use Rattle.trace_table.specs.Rows.{table_rows}
use Rattle.trace_table.specs.Tables.{IsTableText, table_line}
use Rattle.program_fault.specs.declared.fault.ProgramFault.{ProgramFault}
use Rattle.program_fault.specs.declared.fault.ProgramFault.TheVariants as program
use Rattle.program_fault.specs.Done.{Output, Does}
use Rattle.command_verdicts.specs.declared.command.Judged.{Judged}
use Rattle.command_verdicts.specs.declared.command.Judged.TheVariants.{Linearizable}
use Rattle.command_verdicts.specs.declared.command.Judged.TheVariants.{NotLinearizable, NotLinearizableBy, TooMany}
use Rattle.command_verdicts.specs.declared.command.Judged.TheVariants.{TooOpen, NoReport}
use Rattle.command_verdicts.specs.Judging.{IsJudgement, IsTraceFault}
use Rattle.command_verdicts.specs.Reporting.{IsReportVerdict}

-- a table of these lines gives this trace text, whose events are of these lines of the table
pub record IsTraceOfTable (table : List (List ℕ)) (text events : List ℕ) : Type 0 where
  pub rows : List TableRow
  pub read : table_rows table ≡ Ok rows
  pub made : IsTableText rows text events

-- why the trace text of a table is not judged, with the line of the table
abbrev pub why_in_table : List ℕ → Unfound → Unfound
why_in_table events unfound.Memory = unfound.Memory
why_in_table events (unfound.Configurations line) = unfound.Configurations (table_line events line)
why_in_table events (unfound.Operations line) = unfound.Operations (table_line events line)

-- a verdict on the trace text of a table, with the lines of the table
abbrev pub verdict_in_table : List ℕ → Judged → Judged
verdict_in_table events Linearizable = Linearizable
verdict_in_table events (NotLinearizable line) = NotLinearizable (table_line events line)
verdict_in_table events (NotLinearizableBy line why) =
    NotLinearizableBy (table_line events line) (why_in_table events why)
verdict_in_table events (TooMany line) = TooMany (table_line events line)
verdict_in_table events (TooOpen line) = TooOpen (table_line events line)
verdict_in_table events (NoReport why) = NoReport why

-- a fault of that text, at the line of the table
abbrev pub found_in_table : List ℕ → LineFault → LineFault
found_in_table events found =
    record { fault = found.fault; line = table_line events found.line }

abbrev pub fault_in_table : List ℕ → ProgramFault → ProgramFault
fault_in_table events (program.Line found) = program.Line (found_in_table events found)
fault_in_table events (program.Fault which) = program.Fault which
fault_in_table events program.Output = program.Output
fault_in_table events program.Tile = program.Tile
fault_in_table events (program.Bad line) = program.Bad line

-- what is answered of that text, with the lines of the table
abbrev pub answer_in_table : List ℕ → Result Judged ProgramFault → Result Judged ProgramFault
answer_in_table events (Ok verdict) = Ok (verdict_in_table events verdict)
answer_in_table events (Err fault) = Err (fault_in_table events fault)

-- a table is judged: its trace text is judged so, and this is printed of it
pub record IsTableJudgement (judges : List (List ℕ) → Judged → List ℕ → Type 0)
    (table : List (List ℕ)) (verdict : Judged) (printed : List ℕ) : Type 0 where
  pub text : List ℕ
  pub events : List ℕ
  pub trace : IsTraceOfTable table text events
  pub found : Judged
  pub judged : judges (lines text) found printed
  pub is : verdict ≡ verdict_in_table events found

-- the trace text of a table has this as its first fault, with the line of the table
pub record IsTextFault (table : List (List ℕ)) (fault : ProgramFault) : Type 0 where
  pub text : List ℕ
  pub events : List ℕ
  pub trace : IsTraceOfTable table text events
  pub found : ProgramFault
  pub refused : IsTraceFault (lines text) found
  pub is : fault ≡ fault_in_table events found

-- the table is refused for this
pub record IsRefusedTable (table : List (List ℕ)) (found : LineFault) : Type 0 where
  pub refusal : Refusal TableReason
  pub refused : table_rows table ≡ Err refusal
  pub is : found ≡ fault_of_refusal table_fault_of refusal

-- the first fault of a table, or else of its trace text
abbrev pub IsTableFault : List (List ℕ) → ProgramFault → Type 0
IsTableFault table (program.Line found) =
    IsRefusedTable table found ⊎ IsTextFault table (program.Line found)
IsTableFault table _ = ⊥

-- the trace of a table was judged, with so many configurations of a word allowed, and its order
-- printed, if it has one
abbrev pub PrintsTableOrder : List (List ℕ) → ℕ → Output → Output → Result Judged ProgramFault
    → Type 0
PrintsTableOrder table bound =
    Does (IsTableJudgement (λ trace. IsJudgement trace bound) table) (IsTableFault table)

-- the trace of a table was judged, with so many configurations of a word allowed, and the report of
-- its order printed, if it has one
abbrev pub PrintsTableReport : List (List ℕ) → ℕ → Output → Output → Result Judged ProgramFault
    → Type 0
PrintsTableReport table bound =
    Does (IsTableJudgement (λ trace. IsReportVerdict trace bound) table) (IsTableFault table)
