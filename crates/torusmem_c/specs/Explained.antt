-- Why a machine text and a scripts text are refused, as C sees it (this project's own format).
use Rattle.std.specs.Prelude.{◌≡◌, ◌⊎◌, ℕ, List, length, Option, Some, None, Result, Ok, Err}
use Rattle.torus.specs.declared.fault.Fault.{Fault}
use Rattle.torus.specs.declared.fault.Fault.TheVariants as fault
use Rattle.lexer.specs.declared.fault.LineFault.{LineFault}
use Rattle.script_lines.specs.Machine.{MachineSpec}
use Rattle.script.specs.Machine.{machine_of}
use Rattle.script_lines.specs.Lines.{ScriptsSpec}
use Rattle.script.specs.Scripts.{scripts_of}
use Rattle.torusmem_c.specs.declared.outcome.Code.{Code}
use Rattle.torusmem_c.specs.declared.outcome.Code.TheVariants as code
use Rattle.torusmem_c.specs.declared.explaining.Text.{Text}
use Rattle.torusmem_c.specs.declared.explaining.Text.TheVariants.{Machine, Scripts}
use Rattle.torusmem_c.specs.declared.explaining.Explanation.{Explanation}
use Rattle.torusmem_c.specs.Outcome.{fault_number, c_code}
use Rattle.torusmem_c.specs.Room.{put_over, put_code}

-- a fault with its line, and the text that it is in
pub record Found : Type 0 where
  pub text : Text
  pub fault : LineFault

-- the first fault of scripts
abbrev pub of_scripts : Result ScriptsSpec LineFault → Option Found
of_scripts (Ok s) = None
of_scripts (Err e) = Some (record { text = Scripts; fault = e })

-- the first fault of a machine text, or else of the scripts text behind it
abbrev pub of_texts : Result MachineSpec LineFault → List (List ℕ) → Option Found
of_texts (Ok m) scripts = of_scripts (scripts_of m scripts)
of_texts (Err e) scripts = Some (record { text = Machine; fault = e })

-- the first fault of a machine text, or else of a scripts text, each given as the list of its lines
abbrev pub first_fault : List (List ℕ) → List (List ℕ) → Option Found
first_fault machine scripts = of_texts (machine_of machine) scripts

-- the number by which C knows the text that a fault is in; out of memory is in none
abbrev pub text_number : Text → Fault → ℕ
text_number text fault.Memory = 0
text_number Machine _ = 1
text_number Scripts _ = 2

-- what C sees of a fault: what became of its sentence, and how long that is
abbrev pub explanation : Code → Found → ℕ → Explanation
explanation c found length = record {
  code = c_code c;
  fault = fault_number found.fault.fault;
  text = text_number found.text found.fault.fault;
  line = found.fault.line;
  length = length;
}

-- there is no fault
abbrev pub no_fault : Explanation
no_fault = record { code = 0; fault = 0; text = 0; line = 0; length = 0 }

-- a sentence on a fault is put into a buffer
pub record PutsSentence (found : Found) (before after : List ℕ) (r : Explanation) : Type 0 where
  pub sentence : List ℕ
  pub buffer : after ≡ put_over sentence before
  pub answer : r ≡ explanation (put_code code.Done sentence before) found (length sentence)

-- a buffer stays as it was, since memory was refused for the sentence
pub record LacksSentence (found : Found) (before after : List ℕ) (r : Explanation) : Type 0 where
  pub buffer : after ≡ before
  pub answer : r ≡ explanation (code.Fault fault.Memory) found 0

-- what is told of a fault: it, and a sentence unless memory is refused for that
abbrev pub TellsFault : Found → List ℕ → List ℕ → Explanation → Type 0
TellsFault found before after r =
    PutsSentence found before after r ⊎ LacksSentence found before after r

-- what is told of texts whose first fault is this, or that have none
abbrev pub TellsFirst : Option Found → List ℕ → List ℕ → Explanation → Type 0
TellsFirst None before after r = (after ≡ before) × (r ≡ no_fault)
TellsFirst (Some found) before after r = TellsFault found before after r

-- memory was refused while one of them was read
abbrev pub TellsMemory : List ℕ → List ℕ → Explanation → Type 0
TellsMemory before after r =
    (found : Found) × (found.fault ≡ record { fault = fault.Memory; line = 0 })
    × TellsFault found before after r
