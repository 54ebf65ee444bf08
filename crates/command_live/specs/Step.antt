-- Steps that lines of a dialogue ask for (this project's own format).
use Rattle.std.specs.Prelude.{ℕ, ◌+◌, ◌*◌, ◌%◌, ◌&&◌, nat_lt, List, Option, Some, None, Result, Ok, Err, if◌then◌else◌, codes}
use Rattle.std.specs.Str.{bytes_eq}
use Rattle.torus.specs.Shape.{Shape, dims_of, tiles_of}
use Rattle.torus.specs.Choices.{has_choice}
use Rattle.torus.specs.declared.fault.Fault.{Fault}
use Rattle.torus.specs.declared.fault.Fault.TheVariants as fault
use Rattle.torus.specs.declared.step.Step.{Step}
use Rattle.torus.specs.declared.step.Choice.{Choice}
use Rattle.torus.specs.declared.step.Choice.TheVariants as choice
use Rattle.lexer.specs.Outcome.{◌>>=◌}
use Rattle.script.specs.Outcome.{line_by_fault}
use Rattle.script.specs.Reasons.{fault_of}
use Rattle.script.specs.Steps.{attempt_of, step_of}

-- some words are a line of a steps text, for a torus of so many tiles and dimensions, and are read as there
abbrev pub step_asked : ℕ → ℕ → List (List ℕ) → Result Step Fault
step_asked tiles dims words = line_by_fault fault_of (attempt_of words >>= step_of tiles dims)

-- the choice of a processor or a bank by its word, and that of a router for an input or output
abbrev pub of_no_port : List ℕ → Option Choice
of_no_port word =
    if bytes_eq word (codes "send") then Some choice.Send
    else (if bytes_eq word (codes "take") then Some choice.Take
    else (if bytes_eq word (codes "credit") then Some choice.Credit
    else (if bytes_eq word (codes "serve") then Some choice.Serve
    else (if bytes_eq word (codes "done") then Some choice.Done
    else (if bytes_eq word (codes "look") then Some choice.Look
    else None)))))

abbrev pub of_a_port : ℕ → List ℕ → Option Choice
of_a_port port word =
    if bytes_eq word (codes "take") then Some (choice.TakeFrom port)
    else (if bytes_eq word (codes "put") then Some (choice.Put port)
    else (if bytes_eq word (codes "credit") then Some (choice.CreditOf port)
    else None))

-- an attempt of this choice, where the torus has the agent, and that the choice
abbrev pub if_there : Shape → ℕ → Option Choice → Result Step Fault
if_there s agent None = Err fault.Step
if_there s agent (Some c) =
    if nat_lt agent (3 * tiles_of s) && has_choice (8 * dims_of s + 2) (agent % 3) c
    then Ok (record { agent = agent; choice = c })
    else Err fault.Step
