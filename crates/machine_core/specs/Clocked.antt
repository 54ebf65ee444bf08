-- Clocked rounds: each choice that is enabled when a round begins is attempted once, as clocked
-- hardware does.
use Rattle.std.specs.Prelude.{◌≡◌, ℕ, zero, suc, ◌%◌, ◌<◌, true, false, List, [], ◌++◌, filter, is_some}
use Rattle.std.specs.List.{flat_map, range_with_len}
use Rattle.torus.specs.Shape.{Shape, tiles_of, dims_of}
use Rattle.torus.specs.Choices.{processor_choices, bank_choices}
use Rattle.torus.specs.declared.step.Step.{Step}
use Rattle.torus.specs.declared.step.Choice.TheVariants.{TakeFrom, Put, CreditOf}
use Rattle.channel_number.specs.Ports.{port_count}
use Rattle.tile.specs.Tile.{Design}
use Rattle.tile.specs.declared.agent.Agent.TheVariants.{Processor, Router, Bank}
use Rattle.tile.specs.Agents.{agent_number}
use Rattle.machine_parts.specs.Core.{State, step, attempts_of}
use Rattle.machine_parts.specs.Machine.{Core, built_to, core_after, all_finished}
use Rattle.machine_core.specs.Rounds.{attempts_between}

-- the attempts of a round at one tile, where the puts of its router begin at an input
abbrev pub turned_at : ℕ → ℕ → ℕ → List Step
turned_at ports first t =
    attempts_of (agent_number t Processor) processor_choices
    ++ attempts_between (λ input. TakeFrom input) (agent_number t Router) 0 ports
    ++ attempts_between (λ input. Put input) (agent_number t Router) first ports
    ++ attempts_between (λ input. Put input) (agent_number t Router) 0 first
    ++ attempts_between (λ output. CreditOf output) (agent_number t Router) 0 ports
    ++ attempts_of (agent_number t Bank) bank_choices

-- a round in which the puts of each router begin at the input whose turn it is (a rotating arbiter:
-- Dally and Towles, Principles and Practices of Interconnection Networks, 2004)
abbrev pub turned_round : Shape → ℕ → List Step
turned_round s turn =
    flat_map (turned_at (port_count (dims_of s)) (turn % port_count (dims_of s)))
    (range_with_len 0 (tiles_of s))

-- a clocked round: of its attempts those that are enabled in the state in which it begins
abbrev pub clocked_steps : Design → State → ℕ → List Step
clocked_steps d s turn = filter (λ a. is_some (step d s a)) (turned_round d.shape turn)

-- that of a machine
abbrev pub clocked_round : Core → ℕ → List Step
clocked_round c turn = clocked_steps (built_to c) c.state turn

-- so many clocked rounds of a machine, one after the other, with the turns from 0 on
abbrev pub clocked_rounds : Core → ℕ → List Step
clocked_rounds c zero = []
clocked_rounds c (suc k) =
    clocked_rounds c k ++ clocked_round (core_after c (clocked_rounds c k)) k

-- the least number of clocked rounds after which every script of a machine is finished
pub record NeedsClocked (c : Core) (k : ℕ) : Type 0 where
  pub done : all_finished (core_after c (clocked_rounds c k)).state ≡ true
  pub least : (j : ℕ) → j < k → all_finished (core_after c (clocked_rounds c j)).state ≡ false
