-- What a watch of a trace comes to (this project's own format).
use Rattle.std.specs.Prelude.{ℕ, Option, Some, None, Result, Ok, Err}
use Rattle.torus.specs.declared.fault.Fault.{Fault}
use Rattle.torus.specs.declared.fault.Fault.TheVariants as fault
use Rattle.trace_text.specs.Reasons.{trace_fault_of}
use Rattle.program_fault.specs.declared.fault.ProgramFault.{ProgramFault}
use Rattle.program_fault.specs.Outcome.{of_line}
use Rattle.command_watch.specs.declared.ending.End.{End}
use Rattle.command_watch.specs.declared.ending.End.TheVariants as ends
use Rattle.command_watch.specs.declared.stop.Stop.TheVariants.{Refused, NoOrder, TooMany, NoTrace}
use Rattle.command_verdicts.specs.declared.command.Judged.{Judged}
use Rattle.command_verdicts.specs.declared.command.Judged.TheVariants as judged

-- a fault of the line of a number; out of memory is at none
abbrev pub line_fault_of : Fault → ℕ → ProgramFault
line_fault_of which line = of_line (record { fault = which; line = line })

-- what a watch judges that ended so at a line; nothing where its input can't be read. A line that is too
-- long, or gives no event of a trace, is one that isn't understood
abbrev pub watched_verdict : End → ℕ → Option (Result Judged ProgramFault)
watched_verdict ends.Linearizable line = Some (Ok judged.Linearizable)
watched_verdict (ends.Stopped NoOrder) line = Some (Ok (judged.NotLinearizable line))
watched_verdict (ends.Stopped TooMany) line = Some (Ok (judged.TooMany line))
watched_verdict (ends.Stopped (Refused reason)) line =
    Some (Err (line_fault_of (trace_fault_of reason) line))
watched_verdict (ends.Stopped NoTrace) line = Some (Err (line_fault_of fault.Line line))
watched_verdict ends.TooLong line = Some (Err (line_fault_of fault.Line line))
watched_verdict (ends.Unread kind) line = None
