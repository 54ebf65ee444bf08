-- Choices of agents, as C names them (this project's own format).
use Rattle.std.specs.Prelude.{ℕ, ◌+◌, ◌*◌, ◌%◌, ◌==◌, ◌&&◌, ◌||◌, Bool, nat_lt, List, [], ◌∷◌, Option, Some, None}
use Rattle.std.specs.Prelude.{if◌then◌else◌, option_and_then, option_map, slice_get}
use Rattle.torus.specs.Shape.{Shape, dims_of, tiles_of}
use Rattle.torus.specs.declared.step.Step.{Step}
use Rattle.torus.specs.declared.step.Choice.{Choice}
use Rattle.torus.specs.declared.step.Choice.TheVariants.{Send, Take, TakeFrom, Put, Credit, CreditOf, Serve, Done, Look}
use Rattle.channel_number.specs.Ports.{port_count}

-- the choices by their numbers, from 0; those of a router are of an input or output
abbrev pub choices : ℕ → List Choice
choices port =
    Send ∷ Take ∷ TakeFrom port ∷ Put port ∷ Credit ∷ CreditOf port ∷ Serve ∷ Done ∷ Look ∷ []

-- the choice that has a number
abbrev pub choice_named : ℕ → ℕ → Option Choice
choice_named number port = slice_get (choices port) number

-- the attempt of that choice by an agent
abbrev pub attempt_named : ℕ → ℕ → ℕ → Option Step
attempt_named agent number port =
    option_map (λ choice. record { agent = agent; choice = choice }) (choice_named number port)

-- whether an agent of a kind, 0 a processor, 1 a router with so many inputs and outputs, 2 a bank, has
-- a choice
abbrev pub has_choice : ℕ → ℕ → Choice → Bool
has_choice ports kind Send = (kind == 0) || (kind == 2)
has_choice ports kind Take = (kind == 0) || (kind == 2)
has_choice ports kind (TakeFrom input) = (kind == 1) && nat_lt input ports
has_choice ports kind (Put input) = (kind == 1) && nat_lt input ports
has_choice ports kind Credit = (kind == 0) || (kind == 2)
has_choice ports kind (CreditOf output) = (kind == 1) && nat_lt output ports
has_choice ports kind Serve = kind == 2
has_choice ports kind Done = kind == 0
has_choice ports kind Look = kind == 0

-- whether a torus has the agent of a step, and the agent the choice: tile t has the agents 3t, 3t + 1
-- and 3t + 2, its processor, router and bank
abbrev pub is_there : Shape → Step → Bool
is_there s step =
    nat_lt step.agent (3 * tiles_of s)
    && has_choice (port_count (dims_of s)) (step.agent % 3) step.choice

-- the step, if it is there
abbrev pub if_there : Shape → Step → Option Step
if_there s step = if is_there s step then Some step else None

-- the step of a torus that numbers name
abbrev pub step_named : Shape → ℕ → ℕ → ℕ → Option Step
step_named s agent number port = option_and_then (if_there s) (attempt_named agent number port)
