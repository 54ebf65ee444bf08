-- What calls answer, as C sees it (this project's own format).
use Rattle.std.specs.Prelude.{ℕ, Bool, true, false, Option, Some, None}
use Rattle.torus.specs.declared.fault.Fault.{Fault}
use Rattle.torus.specs.declared.fault.Fault.TheVariants as fault
use Rattle.lexer.specs.declared.fault.LineFault.{LineFault}
use Rattle.torusmem_c.specs.declared.outcome.Code.{Code}
use Rattle.torusmem_c.specs.declared.outcome.Code.TheVariants as code
use Rattle.torusmem_c.specs.declared.outcome.Outcome.{Outcome}

-- the number of a fault's code, `F1` to `F14`
abbrev pub fault_number : Fault → ℕ
fault_number fault.Radix = 1
fault_number fault.Dimensions = 2
fault_number fault.Tiles = 3
fault_number fault.Line = 4
fault_number fault.Setting = 5
fault_number fault.Range = 6
fault_number fault.Address = 7
fault_number fault.Processor = 8
fault_number fault.Length = 9
fault_number fault.Last = 10
fault_number fault.Step = 11
fault_number fault.Memory = 12
fault_number fault.Count = 13
fault_number fault.Dateline = 14

-- the number by which C knows a code
abbrev pub c_code : Code → ℕ
c_code code.Done = 0
c_code (code.Fault f) = fault_number f
c_code code.BadReport = 15
c_code code.Empty = 16
c_code code.Full = 17
c_code code.NoSuch = 18
c_code code.Short = 19
c_code code.NoRoute = 20
c_code code.Cycle = 21
c_code code.NotLinearizable = 22
c_code code.TooMany = 23
c_code code.TooOpen = 24
c_code code.BehindSpin = 25
c_code code.NotYet = 26
c_code code.NoRecord = 27
c_code code.BadRecord = 28
c_code code.BadAction = 29
c_code code.WrongReply = 30
c_code code.NoPair = 31
c_code code.NotRising = 32
c_code code.Unwritten = 33
c_code code.LostUpdate = 34
c_code code.Undecided = 35
c_code code.Never = 36
c_code code.TooLong = 37
c_code code.NoReply = 38
c_code code.OtherCount = 39

-- a code, and the number that goes with it
abbrev pub c_outcome : Code → ℕ → Outcome
c_outcome c value = record { code = c_code c; value = value }

-- 1 for yes, 0 for no
abbrev pub c_flag : Bool → ℕ
c_flag true = 1
c_flag false = 0

-- the number of things there are, or that there are none such
abbrev pub c_count : {A : Type 0} → Option A → (A → ℕ) → Outcome
c_count None count = c_outcome code.NoSuch 0
c_count (Some x) count = c_outcome code.Done (count x)

-- memory was refused
abbrev pub no_memory : Outcome
no_memory = c_outcome (code.Fault fault.Memory) 0

-- a fault of a text with its line; out of memory is at line 0
abbrev pub fault_outcome : LineFault → Outcome
fault_outcome found = c_outcome (code.Fault found.fault) found.line
