-- Why a command failed, with where and why its text is refused.
use Rattle.std.specs.Prelude.{◌≡◌, ◌⊎◌, ⊤, Option, Some, None, Result, Ok, Err}
use Rattle.torus.specs.declared.fault.Fault.{Fault}
use Rattle.lexer.specs.Faults.{fault_of_refusal}
use Rattle.lexer.specs.Outcome.{refusal_at}
use Rattle.lexer.specs.declared.refusal.Refusal.{Refusal}
use Rattle.program_fault.specs.Outcome.{of_line}
use Rattle.program_fault.specs.declared.fault.ProgramFault.{ProgramFault}
use Rattle.program_fault.specs.declared.fault.ProgramFault.TheVariants as program
use Rattle.program_fault.specs.declared.refused.Refused.{Refused}

-- what a command fails by where its text is refused
abbrev pub refused_by : {R : Type 0} → (R → Fault) → Refusal R → Refused R
refused_by fault_of refusal =
    record { fault = of_line (fault_of_refusal fault_of refusal); refusal = Some refusal }

-- what a command fails by behind its text
abbrev pub failed_by : {R : Type 0} → ProgramFault → Refused R
failed_by fault = record { fault = fault; refusal = None }

-- the answer of a command of which the fault alone is asked
abbrev pub by_fault_alone : {A R : Type 0} → Result A (Refused R) → Result A ProgramFault
by_fault_alone (Ok answer) = Ok answer
by_fault_alone (Err refused) = Err refused.fault

-- where and why a text is refused, as its reader says, which may also have run out of memory; a
-- command that says none of it fails at no line
abbrev pub IsRefusal : {A R : Type 0} → R → Result A (Refusal R) → ProgramFault → Option (Refusal R)
    → Type 0
IsRefusal memory read fault (Some refusal) =
    (read ≡ Err refusal) ⊎ (refusal ≡ refusal_at 0 memory)
IsRefusal memory read (program.Line found) None = ⊥
IsRefusal memory read fault None = ⊤

-- a command that fails says where and why the reader of its text refuses that
abbrev pub IsRefusalOf : {A R : Type 0} → R → Result A (Refusal R) → Refused R → Type 0
IsRefusalOf memory read refused = IsRefusal memory read refused.fault refused.refusal
