-- The machine after rounds from a load, and the fewest that finish every script (this project's own
-- format).
use Rattle.std.specs.Prelude.{◌≡◌, ℕ, ◌<◌, ◌≤◌, true, false}
use Rattle.machine_parts.specs.Load.{Load}
use Rattle.machine_parts.specs.Machine.{Core, core_after_load, all_finished}
use Rattle.machine_core.specs.Rounds.{rounds_of}

-- the machine after so many rounds from a load
abbrev pub after_rounds : Load → ℕ → Core
after_rounds l k = core_after_load l (rounds_of l.shape k)

-- so many rounds are the fewest that finish every script; where these are more than the most that
-- are allowed, they are that many
pub record AreFewest (l : Load) (most k : ℕ) : Type 0 where
  pub allowed : k ≤ most
  pub unfinished : (j : ℕ) → j < k → all_finished (after_rounds l j).state ≡ false
  pub finished : k < most → all_finished (after_rounds l k).state ≡ true
