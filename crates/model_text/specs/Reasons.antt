-- Which fault each reason is of for which a line of a log is refused (this project's own format).
use Rattle.torus.specs.declared.fault.Fault.{Fault}
use Rattle.torus.specs.declared.fault.Fault.TheVariants as fault
use Rattle.trace_lines.specs.Reasons.{fault_of_line_reason}
use Rattle.model_text.specs.declared.reason.LogReason.{LogReason}
use Rattle.model_text.specs.declared.reason.LogReason.TheVariants as reason

-- the fault that has a reason
abbrev pub log_fault_of : LogReason → Fault
log_fault_of (reason.Line why) = fault_of_line_reason why
log_fault_of reason.UnknownKeyword = fault.Line
log_fault_of (reason.WordCount keyword) = fault.Line
log_fault_of reason.NotSource = fault.Line
log_fault_of reason.OperationsLimits = fault.Length
log_fault_of reason.AddressesLimits = fault.Length
log_fault_of (reason.NotMade made) = fault.Range
log_fault_of reason.FenceNamed = fault.Line
log_fault_of reason.NotWrite = fault.Line
log_fault_of reason.NotLoad = fault.Line
log_fault_of reason.OtherWord = fault.Address
log_fault_of reason.SourceTwice = fault.Setting
log_fault_of reason.SourceMissing = fault.Setting
log_fault_of reason.RepliedTwice = fault.Setting
log_fault_of reason.ReplyMissing = fault.Setting
log_fault_of reason.NotAnnotation = fault.Line
log_fault_of reason.NotFenceOrder = fault.Line
log_fault_of reason.NotReserved = fault.Range
log_fault_of reason.ReservedWord = fault.Address
log_fault_of reason.NotOn = fault.Line
log_fault_of reason.NotDependency = fault.Line
log_fault_of reason.NotBehind = fault.Range
log_fault_of reason.GivesNothing = fault.Line
log_fault_of reason.DataOfLoad = fault.Line
log_fault_of reason.FinalTwice = fault.Setting
