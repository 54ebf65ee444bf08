-- Agents that are asleep: no choice of theirs is enabled.
use Rattle.std.specs.Prelude.{◌≡◌, ℕ, ◌||◌, Bool, false, List, [], ◌∷◌, None, is_some}
use Rattle.torus.specs.Shape.{Shape, dims_of}
use Rattle.torus.specs.declared.step.Step.{Step}
use Rattle.torus.specs.declared.step.Choice.{Choice}
use Rattle.torus.specs.Choices.{processor_choices, router_choices, bank_choices}
use Rattle.channel_number.specs.Ports.{port_count}
use Rattle.core_laws.specs.Agent.{Agent}
use Rattle.core_laws.specs.Agent.TheVariants.{Processor, Router, Bank}
use Rattle.core_laws.specs.Tile.{Design}
use Rattle.core_laws.specs.Agents.{agent_kind}
use Rattle.core_laws.specs.Core.{State, step, next, attempts_of}

-- no choice of the agent is enabled (this project's own format)
abbrev pub IsAsleep : Design → State → ℕ → Type 0
IsAsleep d s agent = (choice : Choice) → step d s (record { agent = agent; choice = choice }) ≡ None

-- every agent that isn't counted among those awake is asleep (this project's own format)
abbrev pub OthersSleep : Design → State → (ℕ → Bool) → Type 0
OthersSleep d s awake = (agent : ℕ) → awake agent ≡ false → IsAsleep d s agent

-- the choices of an agent in the order of a round, where the router has so many inputs and as many
-- outputs (this project's own format)
abbrev pub choices_of : ℕ → Agent → List Choice
choices_of ports Processor = processor_choices
choices_of ports Router = router_choices ports
choices_of ports Bank = bank_choices

-- the attempts of a round by the agent of a number: each of its choices once (this project's own
-- format)
abbrev pub attempts_at : Shape → ℕ → List Step
attempts_at s agent = attempts_of agent
    (choices_of (port_count (dims_of s)) (agent_kind agent))

-- whether any of a list of attempts is enabled where it comes
abbrev pub has_moved : Design → State → List Step → Bool
has_moved d s [] = false
has_moved d s (attempt ∷ attempts) =
    is_some (step d s attempt) || has_moved d (next d s attempt) attempts
