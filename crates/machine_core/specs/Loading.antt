-- What two texts ask for, and the machine that is loaded for them (this project's own format).
use Rattle.std.specs.Prelude.{◌≡◌, ◌⊎◌, ℕ, List, [], Result, Ok, Err}
use Rattle.torus.specs.declared.fault.Fault.TheVariants as fault
use Rattle.lexer.specs.declared.fault.LineFault.{LineFault}
use Rattle.script.specs.Machine.{machine_of}
use Rattle.script.specs.Scripts.{scripts_of}
use Rattle.machine_parts.specs.Load.{Load, load_of}
use Rattle.machine_parts.specs.Machine.{Core, IsAfter}

-- what is read next, unless the texts before have a fault
infixl 10 ◌then◌
abbrev pub ◌then◌ : {A B : Type 0} → Result A LineFault → (A → Result B LineFault)
    → Result B LineFault
(Ok x) then next = next x
(Err e) then next = Err e

-- what two texts ask for, or the first fault; they are taken in this order
abbrev pub load_by : List (List ℕ) → List (List ℕ) → Result Load LineFault
load_by machine scripts =
    machine_of machine then λ m. scripts_of m scripts then λ s. Ok (load_of m s)

-- a machine stands where what is asked for is loaded, and no step is made
pub record HasLoaded (asked : Result Load LineFault) (c : Core) : Type 0 where
  pub load : Load
  pub read : asked ≡ Ok load
  pub after : IsAfter load c []

-- the first fault of the texts, or out of memory, at line 0
abbrev pub IsLoadFault : Result Load LineFault → LineFault → Type 0
IsLoadFault asked f = (asked ≡ Err f) ⊎ (f ≡ record { fault = fault.Memory; line = 0 })
