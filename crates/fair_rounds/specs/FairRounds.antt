-- Fair rounds of a machine with its guard, one after the other.
use Rattle.std.specs.Prelude.{◌≡◌, ℕ, zero, suc, ◌<◌, true, false, List, [], ◌++◌}
use Rattle.torus.specs.declared.step.Step.{Step}
use Rattle.machine_parts.specs.Machine.{Core, core_after, all_finished}
use Rattle.machine_core.specs.Oldest.{oldest}
use Rattle.machine_core.specs.Guarded.{guarded_round}
use Rattle.fair_rounds.specs.Guard.{Guarding, holds, guard_after}

-- a machine, and the guard of its fair rounds
pub record FairMachine : Type 0 where
  pub core : Core
  pub guard : Guarding

-- the attempts of its next fair round, and the machine behind them
abbrev pub fair_attempts : FairMachine → List Step
fair_attempts m = guarded_round oldest (holds m.guard m.core) m.core

abbrev pub fair_next : FairMachine → FairMachine
fair_next m = record {
  core = core_after m.core (fair_attempts m);
  guard = guard_after m.guard m.core;
}

-- the machine behind so many fair rounds, and the attempts of these, one after the other
abbrev pub fair_after : FairMachine → ℕ → FairMachine
fair_after m zero = m
fair_after m (suc k) = fair_next (fair_after m k)

abbrev pub fair_steps : FairMachine → ℕ → List Step
fair_steps m zero = []
fair_steps m (suc k) = fair_steps m k ++ fair_attempts (fair_after m k)

-- the least number of fair rounds after which every script of a machine is finished
pub record NeedsFair (m : FairMachine) (k : ℕ) : Type 0 where
  pub done : all_finished (fair_after m k).core.state ≡ true
  pub least : (j : ℕ) → j < k → all_finished (fair_after m j).core.state ≡ false
