-- What a sentence says of the texts of a command.
use Rattle.std.specs.Prelude.{◌≡◌, ◌⊎◌, ℕ, ◌≤◌, ◌<◌, true, List, Option, Some, None}
use Rattle.std.specs.Prelude.{Result, Ok, Err, is_ok}
use Rattle.std.specs.Str.Lines.{lines}
use Rattle.torus.specs.declared.fault.Fault.TheVariants as fault
use Rattle.torus.specs.declared.step.Step.{Step}
use Rattle.torus.specs.Shape.{tiles_of}
use Rattle.lexer.specs.declared.named.Named.{Named}
use Rattle.lexer.specs.declared.refusal.Refusal.{Refusal}
use Rattle.lexer.specs.Named.{IsAbout}
use Rattle.lexer.specs.Outcome.{◌>>=◌, refusal_at}
use Rattle.lexer.specs.declared.fault.LineFault.{LineFault}
use Rattle.script.specs.declared.reason.TextReason.{TextReason}
use Rattle.script.specs.declared.reason.TextReason.TheVariants as reason
use Rattle.script.specs.Reasons.{fault_of}
use Rattle.script_lines.specs.Machine.{MachineSpec}
use Rattle.script.specs.Machine.{machine_of, machine_or_why}
use Rattle.script_lines.specs.Lines.{ScriptsSpec}
use Rattle.script.specs.Scripts.{scripts_of, scripts_or_why}
use Rattle.script.specs.Steps.{steps_of, steps_or_why}
use Rattle.sentences.specs.declared.sentence.Sentence.{Sentence}
use Rattle.sentences.specs.declared.sentence.TileSentence.{TileSentence}

-- the fault that a sentence is about
abbrev pub fault_in : Sentence → LineFault
fault_in s = record { fault = fault_of s.reason; line = s.line }

-- a sentence is about the first fault of what is read, or about a refusal of memory; there is
-- none where no text has a fault
abbrev pub TellsReading : {A : Type 0} → Result A LineFault → Option Sentence → Type 0
TellsReading read None = is_ok read ≡ true
TellsReading read (Some s) =
    (read ≡ Err (fault_in s)) ⊎ (fault_in s ≡ record { fault = fault.Memory; line = 0 })

-- what is read next, unless the texts before have a fault
abbrev pub read_after :
    {A B : Type 0} → Result A LineFault → (A → Result B LineFault) → Result B LineFault
read_after (Ok x) next = next x
read_after (Err e) next = Err e

-- the scripts of a machine text and a script text
abbrev pub scripts_read : List (List ℕ) → List (List ℕ) → Result ScriptsSpec LineFault
scripts_read machine scripts = read_after (machine_of machine) (λ m. scripts_of m scripts)

-- the steps of a machine text, a script text and a steps text
abbrev pub steps_read : List (List ℕ) → List (List ℕ) → List (List ℕ) → Result (List Step) LineFault
steps_read machine scripts steps =
    read_after (machine_of machine) (λ m. read_after (scripts_of m scripts) (λ s. steps_of m steps))

-- a sentence has them
abbrev pub IsAboutText : Named → Sentence → Type 0
IsAboutText t s = IsAbout t s.name.now s.text.now

-- where and why a text is refused, as a sentence tells it
abbrev pub refusal_in : Sentence → Refusal TextReason
refusal_in s = refusal_at s.line s.reason

-- a sentence tells where and why the readers refuse what is read, or that memory was refused; there
-- is none where nothing is refused
abbrev pub TellsWhy : {A : Type 0} → Result A (Refusal TextReason) → Option Sentence → Type 0
TellsWhy read None = is_ok read ≡ true
TellsWhy read (Some s) = (read ≡ Err (refusal_in s)) ⊎ (refusal_in s ≡ refusal_at 0 reason.Memory)

-- the scripts of a machine text and a script text, or where and why the first of them that is bad is
-- refused
abbrev pub scripts_or_why_of :
    List (List ℕ) → List (List ℕ) → Result ScriptsSpec (Refusal TextReason)
scripts_or_why_of machine scripts = machine_or_why machine >>= λ m. scripts_or_why m scripts

-- the steps of a machine text, a script text and a steps text, or where and why the first of them
-- that is bad is refused
abbrev pub steps_or_why_of :
    List (List ℕ) → List (List ℕ) → List (List ℕ) → Result (List Step) (Refusal TextReason)
steps_or_why_of machine scripts steps =
    machine_or_why machine >>= λ m. scripts_or_why m scripts >>= λ _. steps_or_why m steps

-- what is said of a text that is refused, and else of the texts behind it
abbrev pub IsFrom : {A : Type 0} → Result A (Refusal TextReason) → Type 0 → (A → Type 0) → Type 0
IsFrom (Err e) here behind = here
IsFrom (Ok x) here behind = behind x

-- it is about the first text that is refused, of a machine text and a script text; or memory was
-- refused
abbrev pub IsFromScripts : Named → Named → Sentence → Type 0
IsFromScripts machine scripts s = (s.reason ≡ reason.Memory)
    ⊎ IsFrom (machine_or_why (lines machine.text.now)) (IsAboutText machine s)
    (λ m. IsAboutText scripts s)

-- it is about the first text that is refused, of a machine text, a script text and a steps text; or
-- memory was refused
abbrev pub IsFromSteps : Named → Named → Named → Sentence → Type 0
IsFromSteps machine scripts steps s = (s.reason ≡ reason.Memory)
    ⊎ IsFrom (machine_or_why (lines machine.text.now)) (IsAboutText machine s)
    (λ m. IsFrom (scripts_or_why m (lines scripts.text.now)) (IsAboutText scripts s)
    (λ _. IsAboutText steps s))

-- a tile that a machine hasn't, and how many it has: the first of two
pub record IsOutside (tiles src dst : ℕ) (t : TileSentence) : Type 0 where
  pub tiles_are : t.tiles ≡ tiles
  pub outside : tiles ≤ t.tile
  pub first : (t.tile ≡ src) ⊎ ((t.tile ≡ dst) × (src < tiles))

-- what is told of two tiles of a machine with so many
abbrev pub TellsOf : ℕ → ℕ → ℕ → Option TileSentence → Type 0
TellsOf tiles src dst None = (src < tiles) × (dst < tiles)
TellsOf tiles src dst (Some t) = IsOutside tiles src dst t

-- what is told of two tiles of the machine of a text, which has no fault
pub record TellsTile (read : Result MachineSpec LineFault) (src dst : ℕ) (told : Option TileSentence) : Type 0 where
  pub machine : MachineSpec
  pub is : read ≡ Ok machine
  pub tells : TellsOf (tiles_of machine.shape) src dst told
