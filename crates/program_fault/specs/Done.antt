-- What a command answers, and what its output took meanwhile (this project's own format).
use Rattle.std.specs.Prelude.{◌≡◌, ℕ, List, Option, Result, Ok, Err}
use Rattle.std.specs.Io.KnownBytes.{Appends}
use Rattle.torus.specs.declared.fault.Fault.TheVariants as fault
use Rattle.report_lines.specs.Taken.{AppendsFront, Rose}
use Rattle.program_fault.specs.declared.fault.ProgramFault.{ProgramFault}
use Rattle.program_fault.specs.declared.fault.ProgramFault.TheVariants as program

-- what an output has taken, where that is known, and the count of its failed puts
pub record Output : Type 0 where
  pub taken : Option (List ℕ)
  pub failures : ℕ

-- an output, from what it has taken and the count of its failed puts
abbrev pub output : Option (List ℕ) → ℕ → Output
output taken failures = record { taken = taken; failures = failures }

-- the whole text was taken, and no put failed
pub record TookAll (old new : Output) (text : List ℕ) : Type 0 where
  pub bytes : Appends old.taken new.taken text
  pub quiet : new.failures ≡ old.failures

-- a beginning of the text was taken, and the count of failed puts rose
pub record TookFront (old new : Output) (text : List ℕ) : Type 0 where
  pub bytes : AppendsFront old.taken new.taken text
  pub failed : Rose old.failures new.failures

-- the whole of a right text was taken, or, where that failed, a beginning of one
abbrev pub Puts : {A E : Type 0} → (List ℕ → Type 0) → Output → Output → Result A E → Type 0
Puts is old new (Ok x) = (text : List ℕ) × is text × TookAll old new text
Puts is old new (Err e) = (text : List ℕ) × is text × TookFront old new text

-- a right answer, whose text was taken, or a beginning of it
abbrev pub Wrote : {A : Type 0} → (A → List ℕ → Type 0) → (Output → Output → List ℕ → Type 0)
    → Output → Output → A → Type 0
Wrote gives takes old new x = (text : List ℕ) × gives x text × takes old new text

-- a fault: of the output, after a beginning of a right text; out of memory; or a right one. But in
-- the first case nothing was written
abbrev pub Refused : {A : Type 0} → (A → List ℕ → Type 0) → (ProgramFault → Type 0) → Output
    → Output → ProgramFault → Type 0
Refused {A} gives refuses old new program.Output = (x : A) × Wrote gives TookFront old new x
Refused {A} gives refuses old new (program.Fault which) = (which ≡ fault.Memory) × (new ≡ old)
Refused {A} gives refuses old new (program.Line found) = refuses (program.Line found) × (new ≡ old)
Refused {A} gives refuses old new program.Tile = refuses program.Tile × (new ≡ old)
Refused {A} gives refuses old new (program.Bad line) = refuses (program.Bad line) × (new ≡ old)

-- a command did what it is for: what it gives, and what it refuses
abbrev pub Does : {A : Type 0} → (A → List ℕ → Type 0) → (ProgramFault → Type 0) → Output → Output
    → Result A ProgramFault → Type 0
Does gives refuses old new (Ok x) = Wrote gives TookAll old new x
Does gives refuses old new (Err e) = Refused gives refuses old new e
