-- What a line makes where only the fault of its reason is reported.
use Rattle.std.specs.Prelude.{Option, Some, None, Result, Ok, Err}
use Rattle.torus.specs.declared.fault.Fault.{Fault}

-- what a line makes where only the fault of its reason is reported
abbrev pub line_by_fault : {A R : Type 0} → (R → Fault) → Result A R → Result A Fault
line_by_fault fault_of (Ok x) = Ok x
line_by_fault fault_of (Err reason) = Err (fault_of reason)

-- what is made, unless there is a reason against it
abbrev pub unless : {A R : Type 0} → Option R → Result A R → Result A R
unless None made = made
unless (Some reason) made = Err reason
