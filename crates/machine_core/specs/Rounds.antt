-- The parts of a round, that is the choices that an agent is asked for, in order; and rounds, one
-- after the other.
use Rattle.std.specs.Prelude.{◌≡◌, ℕ, zero, suc, ◌-◌, ◌<◌, true, false, List, [], ◌++◌, map, Option}
use Rattle.std.specs.List.{range_with_len}
use Rattle.torus.specs.Shape.{Shape}
use Rattle.torus.specs.declared.step.Step.{Step}
use Rattle.torus.specs.declared.step.Choice.{Choice}
use Rattle.machine_parts.specs.Rounds.{first_enabled}
use Rattle.machine_parts.specs.Core.{step, attempts_of, round}
use Rattle.machine_parts.specs.Machine.{Core, built_to, core_after, all_finished}

-- the first of some attempts that is enabled in a machine now (this project's own format)
abbrev pub first_in : Core → List Step → Option Step
first_in c attempts = first_enabled (step (built_to c)) c.state attempts

-- the attempts of an agent's choice for each number from one on and below another (this project's
-- own format)
abbrev pub attempts_between : (ℕ → Choice) → ℕ → ℕ → ℕ → List Step
attempts_between f agent from to = attempts_of agent (map f (range_with_len from (to - from)))

-- the attempts of so many rounds of a torus, one after the other (this project's own format)
abbrev pub rounds_of : Shape → ℕ → List Step
rounds_of s zero = []
rounds_of s (suc k) = round s ++ rounds_of s k

-- the least number of rounds after which every script of a machine is finished (this project's own
-- format)
pub record NeedsRounds (c : Core) (k : ℕ) : Type 0 where
  pub done : all_finished (core_after c (rounds_of c.shape k)).state ≡ true
  pub least : (j : ℕ) → j < k → all_finished (core_after c (rounds_of c.shape j)).state ≡ false
