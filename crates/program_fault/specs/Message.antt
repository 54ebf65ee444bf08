-- The bytes that the program prints for a fault (this project's own format).
use Rattle.std.specs.Prelude.{ℕ, List, ◌++◌, codes, decimal}
use Rattle.torus.specs.declared.fault.Fault.{Fault}
use Rattle.torus.specs.declared.fault.Fault.TheVariants as fault
use Rattle.torus.specs.FaultCode.{fault_code}
use Rattle.program_fault.specs.declared.fault.ProgramFault.{ProgramFault}
use Rattle.program_fault.specs.declared.fault.ProgramFault.TheVariants as program

-- the fault and its line; out of memory has none
abbrev pub line_text_of : Fault → ℕ → List ℕ
line_text_of fault.Memory line = codes "fault F12"
line_text_of which line = codes "fault " ++ fault_code which ++ codes " at line " ++ decimal line

-- what the program prints for a fault
abbrev pub fault_text_of : ProgramFault → List ℕ
fault_text_of (program.Line found) = line_text_of found.fault found.line
fault_text_of (program.Fault which) = codes "fault " ++ fault_code which
fault_text_of program.Output = codes "output failed"
fault_text_of program.Tile = codes "tile out of range"
fault_text_of (program.Bad line) = codes "bad report at line " ++ decimal line
