-- Rounds that keep who is awake, and leave out the agents that aren't.
use Rattle.std.specs.Prelude.{ℕ, ◌==◌, ◌&&◌, ◌||◌, Bool, not, if◌then◌else◌, List, [], ◌∷◌}
use Rattle.std.specs.Prelude.{Option, Some, None}
use Rattle.std.specs.List.{range_with_len}
use Rattle.torus.specs.Shape.{tiles_of}
use Rattle.torus.specs.declared.step.Step.{Step}
use Rattle.core_laws.specs.Agent.TheVariants.{Processor, Router, Bank}
use Rattle.core_laws.specs.Tile.{Design}
use Rattle.core_laws.specs.Agents.{agent_number}
use Rattle.core_laws.specs.Core.{State, step}
use Rattle.core_laws.specs.Waking.{is_woken}
use Rattle.core_laws.specs.Sleep.{attempts_at, has_moved}

-- a state, and of each agent whether it counts as awake (this project's own format)
pub record Watch : Type 0 where
  pub state : State
  pub awake : ℕ → Bool

-- after an attempt that leads to a state, or isn't enabled: those that a move wakes are awake too
abbrev pub watched : Design → Watch → Step → Option State → Watch
watched d w attempt None = w
watched d w attempt (Some next) = record {
  state = next;
  awake = λ agent. w.awake agent || is_woken d w.state attempt agent;
}

-- after a list of attempts
abbrev pub after_watching : Design → Watch → List Step → Watch
after_watching d w [] = w
after_watching d w (attempt ∷ attempts) =
    after_watching d (watched d w attempt (step d w.state attempt)) attempts

-- after an agent has attempted its choices: it falls asleep where none of them moved
abbrev pub rested : Watch → ℕ → Bool → Watch
rested w agent moved = if moved then w else record {
  state = w.state;
  awake = λ other. w.awake other && not (other == agent);
}

-- after an agent's turn in a round: one that isn't awake is left out (this project's own format)
abbrev pub agent_turn : Design → Watch → ℕ → Watch
agent_turn d w agent =
    if w.awake agent
    then rested (after_watching d w (attempts_at d.shape agent)) agent
    (has_moved d w.state (attempts_at d.shape agent))
    else w

-- after the turns of a tile's three agents
abbrev pub tile_turn : Design → Watch → ℕ → Watch
tile_turn d w t =
    agent_turn d
    (agent_turn d (agent_turn d w (agent_number t Processor)) (agent_number t Router))
    (agent_number t Bank)

-- after the turns of a list of tiles
abbrev pub tile_turns : Design → Watch → List ℕ → Watch
tile_turns d w [] = w
tile_turns d w (t ∷ tiles) = tile_turns d (tile_turn d w t) tiles

-- after a round of the agents that are awake when their turn comes (this project's own format)
abbrev pub round_awake : Design → Watch → Watch
round_awake d w = tile_turns d w (range_with_len 0 (tiles_of d.shape))
