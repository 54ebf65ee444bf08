-- Clocked rounds in which an arbiter says in which order the puts of each router are attempted; and the
-- arbiter by which the oldest operation goes first.
use Rattle.std.specs.Prelude.{◌≡◌, ℕ, ◌-◌, ◌%◌, ◌<◌}
use Rattle.std.specs.Prelude.{List, ◌∷◌, ◌++◌, length, map, filter, is_some}
use Rattle.std.specs.List.{flat_map, range_with_len}
use Rattle.torus.specs.Shape.{tiles_of, dims_of}
use Rattle.torus.specs.Choices.{processor_choices, bank_choices}
use Rattle.torus.specs.declared.step.Step.{Step}
use Rattle.torus.specs.declared.step.Choice.TheVariants.{TakeFrom, Put, CreditOf}
use Rattle.channel_number.specs.Ports.{port_count}
use Rattle.tile.specs.declared.agent.Agent.TheVariants.{Processor, Router, Bank}
use Rattle.tile.specs.Agents.{agent_number}
use Rattle.machine_parts.specs.Core.{step, attempts_of}
use Rattle.machine_parts.specs.Machine.{Core, built_to}
use Rattle.machine_core.specs.Rounds.{attempts_between}

-- an arbiter: the inputs of the router of each tile, in the order in which their puts are attempted, by
-- the machine at the beginning of a round (Dally and Towles, chapter 18)
abbrev pub Arbiter : Type 0
Arbiter = Core → ℕ → List ℕ

-- each input below a number stands there once
pub record NamesInputs (ports : ℕ) (inputs : List ℕ) : Type 0 where
  pub count : length inputs ≡ ports
  pub all : (i : ℕ) → i < ports → (before : List ℕ) × (behind : List ℕ) × (inputs ≡ before ++ i ∷ behind)

-- an arbiter names each input of each router once
abbrev pub IsArbiter : Arbiter → Type 0
IsArbiter by = (c : Core) (t : ℕ) → t < tiles_of c.shape → NamesInputs (port_count (dims_of c.shape)) (by c t)

-- the attempts of a round at one tile, where the puts of its router are attempted in this order
abbrev pub arbited_at : ℕ → List ℕ → ℕ → List Step
arbited_at ports inputs t =
    attempts_of (agent_number t Processor) processor_choices
    ++ attempts_between (λ input. TakeFrom input) (agent_number t Router) 0 ports
    ++ attempts_of (agent_number t Router) (map (λ input. Put input) inputs)
    ++ attempts_between (λ output. CreditOf output) (agent_number t Router) 0 ports
    ++ attempts_of (agent_number t Bank) bank_choices

-- a clocked round by an arbiter: of its attempts those that are enabled in the machine with which it
-- begins
abbrev pub arbited_round : Arbiter → Core → List Step
arbited_round by c =
    filter (λ a. is_some (step (built_to c) c.state a))
    (flat_map (λ t. arbited_at (port_count (dims_of c.shape)) (by c t) t)
    (range_with_len 0 (tiles_of c.shape)))

-- today's: the puts of each router begin at the input whose turn it is
abbrev pub by_turn : ℕ → Arbiter
by_turn turn c t =
    range_with_len (turn % port_count (dims_of c.shape))
    (port_count (dims_of c.shape) - turn % port_count (dims_of c.shape))
    ++ range_with_len 0 (turn % port_count (dims_of c.shape))
