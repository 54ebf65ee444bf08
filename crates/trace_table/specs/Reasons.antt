-- Which fault each reason is of for which a line of a table is refused (this project's own format).
use Rattle.torus.specs.declared.fault.Fault.{Fault}
use Rattle.torus.specs.declared.fault.Fault.TheVariants as fault
use Rattle.trace_lines.specs.Reasons.{fault_of_line_reason}
use Rattle.trace_table.specs.declared.reason.TableReason.{TableReason}
use Rattle.trace_table.specs.declared.reason.TableReason.TheVariants as reason

-- the fault that has a reason
abbrev pub table_fault_of : TableReason → Fault
table_fault_of (reason.Missing column) = fault.Setting
table_fault_of reason.Quote = fault.Line
table_fault_of reason.CellCount = fault.Line
table_fault_of reason.OperationsLimits = fault.Length
table_fault_of (reason.Cell column) = fault.Line
table_fault_of (reason.Line why) = fault_of_line_reason why
table_fault_of reason.FoundUnnamed = fault.Line
table_fault_of reason.Backwards = fault.Range
