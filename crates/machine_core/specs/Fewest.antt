-- Rounds from a load, in order or clocked, and the fewest that finish every script (this project's own
-- format).
use Rattle.std.specs.Prelude.{◌≡◌, ℕ, ◌<◌, ◌≤◌, Bool, true, false, List, []}
use Rattle.torus.specs.declared.step.Step.{Step}
use Rattle.one_order.specs.Load.{Load}
use Rattle.core_laws.specs.Core.{round}
use Rattle.core_laws.specs.Machine.{Core, core_after_load, all_finished}
use Rattle.machine_core.specs.Rounds.{rounds_of}
use Rattle.machine_core.specs.Clocked.{clocked_round, clocked_rounds}

-- the attempts of so many rounds from a load, one after the other: clocked rounds with the turns from 0
-- on, or rounds in order
abbrev pub rounds_from : Bool → Load → ℕ → List Step
rounds_from false l k = rounds_of l.shape k
rounds_from true l k = clocked_rounds (core_after_load l []) k

-- the attempts of the round of a machine that is behind so many
abbrev pub round_behind : Bool → Core → ℕ → List Step
round_behind false c k = round c.shape
round_behind true c k = clocked_round c k

-- the machine after so many rounds from a load
abbrev pub after_rounds_from : Bool → Load → ℕ → Core
after_rounds_from clocked l k = core_after_load l (rounds_from clocked l k)

-- so many rounds, clocked or in order, are the fewest that finish every script; where these are more
-- than the most that are allowed, they are that many
pub record AreFewestFrom (clocked : Bool) (l : Load) (most k : ℕ) : Type 0 where
  pub allowed : k ≤ most
  pub unfinished : (j : ℕ) → j < k → all_finished (after_rounds_from clocked l j).state ≡ false
  pub finished : k < most → all_finished (after_rounds_from clocked l k).state ≡ true
