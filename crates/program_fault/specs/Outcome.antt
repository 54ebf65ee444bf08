-- What a command's answer comes to (this project's own format).
use Rattle.std.specs.Prelude.{◌≡◌, ℕ, Bool, true, false, Result, Ok, Err}
use Rattle.torus.specs.declared.fault.Fault.{Fault}
use Rattle.torus.specs.declared.fault.Fault.TheVariants as fault
use Rattle.lexer.specs.declared.fault.LineFault.{LineFault}
use Rattle.report_check.specs.declared.fault.CheckFault.{CheckFault}
use Rattle.report_check.specs.declared.fault.CheckFault.TheVariants.{BadReport, Memory}
use Rattle.program_fault.specs.declared.fault.ProgramFault.{ProgramFault}
use Rattle.program_fault.specs.declared.fault.ProgramFault.TheVariants as program

-- a fault of a text, of which out of memory is at no line
abbrev pub of_found : Fault → LineFault → ProgramFault
of_found fault.Memory found = program.Fault fault.Memory
of_found _ found = program.Line found

-- what a reader's fault is to the program
abbrev pub of_line : LineFault → ProgramFault
of_line found = of_found found.fault found

-- what the checker's fault is to the program
abbrev pub of_check : CheckFault → ProgramFault
of_check (BadReport line) = program.Bad line
of_check Memory = program.Fault fault.Memory

-- this is the first fault of the texts
abbrev pub IsTextsFault : {A : Type 0} → Result A LineFault → ProgramFault → Type 0
IsTextsFault asked (program.Line found) = asked ≡ Err found
IsTextsFault asked _ = ⊥

-- a fault of a text, or memory refused
abbrev pub IsReadFault : {A : Type 0} → Result A LineFault → ProgramFault → Type 0
IsReadFault asked (program.Line found) = asked ≡ Err found
IsReadFault asked (program.Fault which) = which ≡ fault.Memory
IsReadFault asked _ = ⊥

-- the status of a fault
abbrev pub fault_status : ProgramFault → ℕ
fault_status (program.Line found) = 1
fault_status (program.Fault which) = 1
fault_status program.Output = 4
fault_status program.Tile = 2
fault_status (program.Bad line) = 1

-- the status that the program ends with
abbrev pub status_of : Result Bool ProgramFault → ℕ
status_of (Ok true) = 0
status_of (Ok false) = 3
status_of (Err f) = fault_status f

-- a command that runs no script has none that is unfinished
abbrev pub finished_of : {A : Type 0} → Result A ProgramFault → Result Bool ProgramFault
finished_of (Ok done) = Ok true
finished_of (Err f) = Err f
