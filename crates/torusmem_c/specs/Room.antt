-- What goes into a caller's buffer (this project's own format).
use Rattle.std.specs.Prelude.{◌≡◌, ℕ, ◌++◌, List, length, drop, nat_lt, if◌then◌else◌}
use Rattle.torusmem_c.specs.declared.outcome.Outcome.{Outcome}
use Rattle.torusmem_c.specs.declared.outcome.Code.{Code}
use Rattle.torusmem_c.specs.declared.outcome.Code.TheVariants as code
use Rattle.torusmem_c.specs.Outcome.{no_memory, c_outcome}

-- a buffer with these at its front; one that is too short for all stays as it was
abbrev pub put_over : {A : Type 0} → List A → List A → List A
put_over found out = if nat_lt (length out) (length found) then out
    else found ++ drop (length found) out

-- a code, or that the buffer is too short for these
abbrev pub put_code : {A : Type 0} → Code → List A → List A → Code
put_code c found out = if nat_lt (length out) (length found) then code.Short else c

-- how many they are, and by this code that they were put
abbrev pub put_as : {A : Type 0} → Code → List A → List A → Outcome
put_as c found out = c_outcome (put_code c found out) (length found)

-- how many they are, and whether they were put
abbrev pub put_outcome : {A : Type 0} → List A → List A → Outcome
put_outcome found out = put_as code.Done found out

-- a buffer stays as it was, since memory was refused
pub record LacksMemory {A : Type 0} (before after : List A) (r : Outcome) : Type 0 where
  pub buffer : after ≡ before
  pub answer : r ≡ no_memory
