-- What a reader answers where only the fault of a refusal is reported, and the number of its line.
use Rattle.std.specs.Prelude.{◌≡◌, ℕ, ◌⊎◌, Result, Ok, Err}
use Rattle.torus.specs.declared.fault.Fault.{Fault}
use Rattle.torus.specs.declared.fault.Fault.TheVariants as fault
use Rattle.lexer.specs.declared.fault.LineFault.{LineFault}
use Rattle.lexer.specs.declared.refusal.Refusal.{Refusal}

-- the fault of a refusal: that of its reason, at its line
abbrev pub fault_of_refusal : {R : Type 0} → (R → Fault) → Refusal R → LineFault
fault_of_refusal fault_of refusal =
    record { fault = fault_of refusal.reason; line = refusal.line }

-- what a reader answers where only the fault of a refusal is reported
abbrev pub by_fault : {A R : Type 0} → (R → Fault) → Result A (Refusal R) → Result A LineFault
by_fault fault_of (Ok x) = Ok x
by_fault fault_of (Err refusal) = Err (fault_of_refusal fault_of refusal)

-- the fault of the line of this number, or what the lines after it make
abbrev pub then_lines : {A B : Type 0} → ℕ → Result A Fault → (A → Result B LineFault)
    → Result B LineFault
then_lines number (Err e) rest = Err (record { fault = e; line = number })
then_lines number (Ok x) rest = rest x

-- what a reader answers: the grammar's value, or the grammar's fault at its line, or out of memory
-- at line 0
abbrev pub Gives : {A B : Type 0} → (A → B) → Result A LineFault → Result B LineFault → Type 0
Gives view (Ok x) read = read ≡ Ok (view x)
Gives view (Err e) read = (e ≡ record { fault = fault.Memory; line = 0 }) ⊎ (read ≡ Err e)
