-- Clocked rounds by an arbiter in which no operation begins.
use Rattle.std.specs.Prelude.{ℕ, Bool, true, false, List, [], ◌∷◌, if◌then◌else◌}
use Rattle.torus.specs.declared.step.Step.{Step}
use Rattle.torus.specs.declared.step.Choice.{Choice}
use Rattle.torus.specs.declared.step.Choice.TheVariants as choice
use Rattle.tile.specs.declared.agent.Agent.{Agent}
use Rattle.tile.specs.declared.agent.Agent.TheVariants.{Processor}
use Rattle.tile.specs.Agents.{agent_kind, agent_tile}
use Rattle.core_laws.specs.Mirrors.{tile_at}
use Rattle.machine_parts.specs.Core.{State}
use Rattle.machine_parts.specs.Machine.{Core, core_next}
use Rattle.machine_core.specs.Arbiters.{Arbiter, arbited_round}

-- whether a processor's choice begins an operation: it sends, and no flit of a request is left to put
abbrev pub is_begin : Agent → Choice → List ℕ → Bool
is_begin Processor choice.Send [] = true
is_begin _ _ _ = false

-- whether an attempt would
abbrev pub begins_operation : State → Step → Bool
begins_operation s a =
    is_begin (agent_kind a.agent) a.choice (tile_at s (agent_tile a.agent)).processor.to_put

-- of some attempts of a machine, one after the other, those that begin no operation where they come
abbrev pub without_begins : Core → List Step → List Step
without_begins c [] = []
without_begins c (a ∷ steps) =
    if begins_operation c.state a then without_begins c steps
    else a ∷ without_begins (core_next c a) steps

-- the attempts of a machine, or where operations are held back those that begin none
abbrev pub held_back : Bool → Core → List Step → List Step
held_back held c steps = if held then without_begins c steps else steps

-- a round by an arbiter, in which no operation begins where that is held back
abbrev pub guarded_round : Arbiter → Bool → Core → List Step
guarded_round by held c =
    if held then without_begins c (arbited_round by c) else arbited_round by c
