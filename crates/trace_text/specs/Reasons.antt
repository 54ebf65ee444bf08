-- Which fault each reason is of for which a line of a trace text is refused (this project's own
-- format).
use Rattle.torus.specs.declared.fault.Fault.{Fault}
use Rattle.torus.specs.declared.fault.Fault.TheVariants as fault
use Rattle.trace_lines.specs.Reasons.{fault_of_line_reason}
use Rattle.trace_text.specs.declared.reason.TraceReason.{TraceReason}
use Rattle.trace_text.specs.declared.reason.TraceReason.TheVariants as reason

-- the fault that has a reason
abbrev pub trace_fault_of : TraceReason → Fault
trace_fault_of (reason.Line why) = fault_of_line_reason why
trace_fault_of reason.UnknownKeyword = fault.Line
trace_fault_of (reason.WordCount keyword) = fault.Line
trace_fault_of reason.OperationsLimits = fault.Length
trace_fault_of reason.AddressesLimits = fault.Length
trace_fault_of (reason.NotIssued issued) = fault.Range
trace_fault_of reason.AnsweredTwice = fault.Setting
