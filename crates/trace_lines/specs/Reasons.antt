-- Which fault each reason is of for which a line is refused that traces and logs have in common,
-- and what follows a refusal (this project's own formats).
use Rattle.std.specs.Prelude.{Option, Some, None, Result, Ok, Err}
use Rattle.torus.specs.declared.fault.Fault.{Fault}
use Rattle.torus.specs.declared.fault.Fault.TheVariants as fault
use Rattle.trace_lines.specs.declared.reason.LineReason.{LineReason}
use Rattle.trace_lines.specs.declared.reason.LineReason.TheVariants as reason

-- the fault that has a reason
abbrev pub fault_of_line_reason : LineReason → Fault
fault_of_line_reason reason.NoTitle = fault.Line
fault_of_line_reason reason.TitleMissing = fault.Line
fault_of_line_reason (reason.WordCount keyword) = fault.Line
fault_of_line_reason (reason.NotNumber place) = fault.Line
fault_of_line_reason reason.UnknownOperation = fault.Line
fault_of_line_reason reason.OperandCount = fault.Line
fault_of_line_reason reason.NotReply = fault.Line
fault_of_line_reason reason.WordsFirst = fault.Setting
fault_of_line_reason reason.WordsMissing = fault.Setting
fault_of_line_reason reason.WordsTwice = fault.Setting
fault_of_line_reason reason.WordsLimits = fault.Range
fault_of_line_reason reason.InitLate = fault.Setting
fault_of_line_reason reason.InitTwice = fault.Setting
fault_of_line_reason reason.ProcessorLimits = fault.Processor
fault_of_line_reason (reason.AddressLimits place words) = fault.Address
fault_of_line_reason (reason.ValueLimits place) = fault.Range
fault_of_line_reason reason.OkUnwanted = fault.Line
fault_of_line_reason reason.NumberUnwanted = fault.Line
fault_of_line_reason reason.Memory = fault.Memory

-- the reason that was found, or else what a further step makes
abbrev pub unless_refused : {A R : Type 0} → Option R → Result A R → Result A R
unless_refused (Some found) made = Err found
unless_refused None made = made

-- a result with another reason in place of its own
abbrev pub map_err : {A R S : Type 0} → (R → S) → Result A R → Result A S
map_err f (Ok x) = Ok x
map_err f (Err e) = Err (f e)
